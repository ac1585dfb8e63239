-- The first limit that is passed, and the faults of all declarations.
use Rattle.std.proofs.Common.{◌≡◌, ℕ, zero, suc, ◌<◌, Bool, true, false, cond, List, [], ◌∷◌, ◌++◌, map, get_or, drop, Option, Some, None, length, ◌+◌, ◌≤◌, drop-cons, refl, sym, ap, ◌∙◌, subst, arith, lit<}
use Rattle.std.proofs.Common.{IfOk, IfErr, IsErr, MatchResult, Result, Ok, Err}
use Rattle.std.proofs.Math.Logic.{inr}
use Rattle.std.specs.Prelude.{min, nat_lt, option_map, find}
use Rattle.std.specs.List.{list_any}
use Rattle.std.proofs.lemmas.Bool.Decides.{nat_tests}
use Rattle.std.proofs.lemmas.Option.{none-some}
use Rattle.lus_tree.specs.Tree.{Name, Component, Declaration, declared_constant, declared_node, declared_contract, Program}
use Rattle.lus_tree.specs.Reason.{Refused, refusal_view}
use Rattle.lus_tree.specs.declared.refusal.Refusal.{Refusal}
use Rattle.lus_tree.specs.View.{decl_view}
use Rattle.lus_tree.specs.declared.declaration.Decl.{Decl}
use Rattle.lus_meaning.specs.ClockFaults.{components}
use Rattle.lus_meaning.specs.Faults.{IsFirst}
use Rattle.lus_meaning.specs.Limits.{Limit, limit_fault, limit_faults, main_faults, passed, size_faults, system_limits, text_limits}
use Rattle.lus_meaning.specs.Program.{instance_of}
use Rattle.lus_meaning.specs.Property.{properties}
use Rattle.lus_meaning.specs.Refusals.{HasNone, IsLimitFault, IsWithinLimits}
use Rattle.lus_meaning.specs.Sizes.{Size, term_sizes}
use Rattle.lus_meaning.specs.Slots.{width}
use Rattle.lus_scopes.specs.Least.{IsLeast, noted_all}
use Rattle.lus_scopes.proofs.Leasts.{noted_append, least_of_all}
use Rattle.lus_limits.specs.declared.systems.SystemSize.{SystemSize}
use Rattle.lus_limits.specs.Peaks.{peak}
use Rattle.lus_limits.specs.SizeCuts.{level_bound, part_bound}
use Rattle.lus_limits.specs.Summaries.{bound}
use Rattle.lus_limits.specs.SystemSizes.{system_size}
use Rattle.lus_limits.proofs.SizeSummaries.{limits_by_peaks}
use Rattle.lus_bounds.specs.Checked.{IsRefusal}
use Rattle.lus_bounds.specs.Passed.{declaration_faults, limit_faults_by, parts_after, size_at, size_limits}

-- ---- the first that is passed

pub passed_first : (ls ms : List Limit) (k : ℕ) → passed ls ≡ Some k → passed (ls ++ ms) ≡ Some k
passed_first [] ms k e = absurd (none-some k e)
passed_first (l ∷ ls) ms k e = go l.0 e (passed_first ls ms k)
  where
    go : (b : Bool) → option_map (λ (l : Limit). l.1) (cond b (Some l) (find (λ (l : Limit). l.0) ls)) ≡ Some k
        → (passed ls ≡ Some k → passed (ls ++ ms) ≡ Some k)
        → option_map (λ (l : Limit). l.1) (cond b (Some l) (find (λ (l : Limit). l.0) (ls ++ ms))) ≡ Some k
    go true h r = h
    go false h r = r h

pub passed_later : (ls ms : List Limit) → passed ls ≡ None → passed (ls ++ ms) ≡ passed ms
passed_later [] ms e = refl
passed_later (l ∷ ls) ms e = go l.0 e (passed_later ls ms)
  where
    go : (b : Bool) → option_map (λ (l : Limit). l.1) (cond b (Some l) (find (λ (l : Limit). l.0) ls)) ≡ None
        → (passed ls ≡ None → passed (ls ++ ms) ≡ passed ms)
        → option_map (λ (l : Limit). l.1) (cond b (Some l) (find (λ (l : Limit). l.0) (ls ++ ms))) ≡ passed ms
    go true h r = absurd (none-some l.1 (sym h))
    go false h r = r h

-- ---- of all declarations

-- a cut number passes a limit below the cut where the number does
cut_passes : (k b x : ℕ) → k < b → nat_lt k (min b x) ≡ nat_lt k x
cut_passes k b x h = grind (arith, nat_tests)

same_limits : (p : Program) (n : Component) → size_limits (system_size p n) ≡ system_limits (instance_of p n)
same_limits p n = λ i.
    (cut_passes 500 bound (length (properties (instance_of p n))) (lit< tt) i, 500)
    ∷ (cut_passes 20000 bound (width (instance_of p n)) (lit< tt) i, 20000)
    ∷ (levels i, 4000)
    ∷ (parts i, 1000000)
    ∷ []
  where
    ss : List Size
    ss = term_sizes (instance_of p n)

    levels : nat_lt 4000 (min level_bound (peak ss).levels) ≡ list_any (λ s. nat_lt 4000 s.levels) ss
    levels = cut_passes 4000 level_bound (peak ss).levels (lit< tt) ∙ sym (limits_by_peaks 4000 ss).0

    parts : nat_lt 1000000 (min part_bound (peak ss).parts) ≡ list_any (λ s. nat_lt 1000000 s.parts) ss
    parts = cut_passes 1000000 part_bound (peak ss).parts (lit< tt) ∙ sym (limits_by_peaks 1000000 ss).1

dropped : (zs : List SystemSize) (k : ℕ) (x : SystemSize) (xs : List SystemSize) → drop k zs ≡ x ∷ xs → (size_at zs k ≡ x) × (drop (suc k) zs ≡ xs)
dropped [] zero x xs e = absurd (cc e)
dropped [] (suc k) x xs e = absurd (cc e)
dropped (z ∷ zs) zero x xs e = (cc e, cc e)
dropped (z ∷ zs) (suc k) x xs e = dropped zs k x xs e

all_same : (p : Program) (zs : List SystemSize) (k : ℕ) (ds : Program) → drop k zs ≡ map (system_size p) (components ds)
    → limit_faults_by zs k ds ≡ limit_faults p k ds
all_same p zs k [] e = refl
all_same p zs k (declared_constant c ∷ ds) e = all_same p zs k ds e
all_same p zs k (declared_contract n ∷ ds) e =
    let r : (size_at zs k ≡ system_size p n) × (drop (suc k) zs ≡ map (system_size p) (components ds)) =
    dropped zs k (system_size p n) (map (system_size p) (components ds)) e in
    ap (λ fs. limit_fault n.name (text_limits k n) ++ fs) (all_same p zs (suc k) ds r.1)
all_same p zs k (declared_node n ∷ ds) e =
    let r : (size_at zs k ≡ system_size p n) × (drop (suc k) zs ≡ map (system_size p) (components ds)) =
    dropped zs k (system_size p n) (map (system_size p) (components ds)) e in
    ap (λ z. limit_fault n.name (text_limits k n ++ size_limits z) ++ limit_faults_by zs (suc k) ds) r.0
    ∙ ap (λ ls. limit_fault n.name (text_limits k n ++ ls) ++ limit_faults_by zs (suc k) ds) (same_limits p n)
    ∙ ap (λ fs. limit_fault n.name (text_limits k n ++ system_limits (instance_of p n)) ++ fs) (all_same p zs (suc k) ds r.1)

-- with one declaration more there are at most as many with parts as there are all together
pub few_after : (k i : ℕ) (d : Declaration) (j : ℕ) → k ≤ i → j ≡ parts_after k d → j ≤ i + 1
few_after k i (declared_constant c) j h e = omega (arith, h, e)
few_after k i (declared_node n) j h e = omega (arith, h, e)
few_after k i (declared_contract n) j h e = omega (arith, h, e)

-- one declaration more
pub one_more : (zs : List SystemSize) (ds : List Decl) (k i : ℕ) (d : Decl) (o q : Option Refused) → i < length ds → d ≡ get_or ds i d
    → q ≡ noted_all o (declaration_faults zs k (decl_view d))
    → noted_all q (limit_faults_by zs (parts_after k (decl_view d)) (map decl_view (drop (i + 1) ds)))
    ≡ noted_all o (limit_faults_by zs k (map decl_view (drop i ds)))
one_more zs ds k i d o q h e g =
    let a : i + 1 ≡ suc i = omega arith in
    let l : drop i ds ≡ d ∷ drop (suc i) ds = drop-cons ds i d h ∙ ap (λ y. y ∷ drop (suc i) ds) (sym e) in
    let rest : List Refused = limit_faults_by zs (parts_after k (decl_view d)) (map decl_view (drop (suc i) ds)) in
    rw a
    (ap (λ z. noted_all z rest) g ∙ sym (noted_append o (declaration_faults zs k (decl_view d)) rest)
    ∙ ap (λ ys. noted_all o (limit_faults_by zs k (map decl_view ys))) (sym l))

-- the least of what is noted is the least of the faults
pub least_of_sizes : (p : Program) (main : Option Name) (zs : List SystemSize) (o q r : Option Refused) → zs ≡ map (system_size p) (components p)
    → o ≡ None → q ≡ noted_all o (main_faults p main) → r ≡ noted_all q (limit_faults_by zs 0 p) → IsLeast r (size_faults p main)
least_of_sizes p main zs o q r e f g h = subst (λ z. IsLeast z (size_faults p main)) (sym noted) (least_of_all (size_faults p main))
  where
    noted : r ≡ noted_all None (size_faults p main)
    noted =
        h ∙ ap (noted_all q) (all_same p zs 0 p e)
        ∙ ap (λ z. noted_all z (limit_faults p 0 p)) (g ∙ ap (λ z. noted_all z (main_faults p main)) f)
        ∙ sym (noted_append None (main_faults p main) (limit_faults p 0 p))

-- ---- what is answered

module _ {A : Type 0} (p : Program) (main : Option Name) (r : Result A Refusal)
    (told : MatchResult r (λ _. HasNone (IsLimitFault p main)) (λ e. IsFirst (IsLimitFault p main) (refusal_view e))) where
  pub within_limits : IfOk r (λ _. IsWithinLimits p main)
  within_limits = go r told
    where
      go : (r : Result A Refusal) → MatchResult r (λ _. HasNone (IsLimitFault p main)) (λ e. IsFirst (IsLimitFault p main) (refusal_view e))
          → IfOk r (λ _. IsWithinLimits p main)
      go (Ok a) h = h
      go (Err e) h = tt

  pub fault_told : (x : Refused) → IsLimitFault p main x → IsErr r
  fault_told = go r told
    where
      go : (r : Result A Refusal) → MatchResult r (λ _. HasNone (IsLimitFault p main)) (λ e. IsFirst (IsLimitFault p main) (refusal_view e))
          → (x : Refused) → IsLimitFault p main x → IsErr r
      go (Ok a) h x f = absurd (h x f)
      go (Err e) h x f = refl

  pub first_told : IfErr r (λ e. IsRefusal p main (refusal_view e))
  first_told = go r told
    where
      go : (r : Result A Refusal) → MatchResult r (λ _. HasNone (IsLimitFault p main)) (λ e. IsFirst (IsLimitFault p main) (refusal_view e))
          → IfErr r (λ e. IsRefusal p main (refusal_view e))
      go (Ok a) h = tt
      go (Err e) h = inr h
