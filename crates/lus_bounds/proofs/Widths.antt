-- The numbers of variables, kept beside the faults.
use Rattle.std.proofs.Common.{◌≡◌, ℕ, zero, suc, ◌<◌, Bool, true, false, cond, List, [], ◌∷◌, ◌++◌, map, get_or, drop, Option, Some, None, length, ◌+◌, drop-cons, refl, sym, ap, ◌∙◌, append_assoc, arith}
use Rattle.std.proofs.Common.{IfOk, MatchResult, Result, Ok, Err}
use Rattle.std.specs.Prelude.{min, nat_lt, option_map, option_to_list, find}
use Rattle.std.proofs.lemmas.Bool.Decides.{nat_tests}
use Rattle.lus_tree.specs.Tree.{Name, Spelled, declared_constant, declared_node, declared_contract, Program}
use Rattle.lus_tree.specs.Lookup.{nodes_of}
use Rattle.lus_tree.specs.Reason.{refusal_view, too_many}
use Rattle.lus_tree.specs.declared.refusal.Refusal.{Refusal}
use Rattle.lus_tree.specs.View.{decl_view}
use Rattle.lus_tree.specs.declared.declaration.Decl.{Decl}
use Rattle.lus_meaning.specs.ClockFaults.{components}
use Rattle.lus_meaning.specs.Faults.{IsFirst, fault}
use Rattle.lus_meaning.specs.Limits.{Limit, at_most, limit_fault, limit_faults, main_faults, passed, size_faults, system_limits, text_limits}
use Rattle.lus_meaning.specs.Program.{instance_of}
use Rattle.lus_meaning.specs.Property.{properties}
use Rattle.lus_meaning.specs.Scene.{Instance}
use Rattle.lus_meaning.specs.Scope.{declared_in}
use Rattle.lus_meaning.specs.Refusals.{HasNone, IsLimitFault}
use Rattle.lus_meaning.specs.Slots.{width}
use Rattle.lus_meaning.proofs.NamesOnce.{not_nil, no_parts, empty_of}
use Rattle.lus_limits.specs.declared.systems.SystemSize.{SystemSize}
use Rattle.lus_limits.specs.SystemSizes.{system_size}
use Rattle.lus_bounds.specs.Passed.{parts_after, size_at}
use Rattle.lus_bounds.specs.Widths.{cut_widths, declaration_widths, widths, widths_by}

-- ---- by the sizes of all systems

dropped : (zs : List SystemSize) (k : ℕ) (x : SystemSize) (xs : List SystemSize) → drop k zs ≡ x ∷ xs → (size_at zs k ≡ x) × (drop (suc k) zs ≡ xs)
dropped [] zero x xs e = absurd (cc e)
dropped [] (suc k) x xs e = absurd (cc e)
dropped (z ∷ zs) zero x xs e = (cc e, cc e)
dropped (z ∷ zs) (suc k) x xs e = dropped zs k x xs e

-- those of the declarations in turn are those of the nodes and functions, cut
pub all_cut : (p : Program) (zs : List SystemSize) (k : ℕ) (ds : Program) → drop k zs ≡ map (system_size p) (components ds)
    → widths_by zs k ds ≡ map (λ n. (system_size p n).variables) (nodes_of ds)
all_cut p zs k [] e = refl
all_cut p zs k (declared_constant c ∷ ds) e = all_cut p zs k ds e
all_cut p zs k (declared_contract n ∷ ds) e =
    let r : (size_at zs k ≡ system_size p n) × (drop (suc k) zs ≡ map (system_size p) (components ds)) =
    dropped zs k (system_size p n) (map (system_size p) (components ds)) e in
    all_cut p zs (suc k) ds r.1
all_cut p zs k (declared_node n ∷ ds) e =
    let r : (size_at zs k ≡ system_size p n) × (drop (suc k) zs ≡ map (system_size p) (components ds)) =
    dropped zs k (system_size p n) (map (system_size p) (components ds)) e in
    ap (λ (z : SystemSize). z.variables ∷ widths_by zs (suc k) ds) r.0 ∙ ap (λ ws. (system_size p n).variables ∷ ws) (all_cut p zs (suc k) ds r.1)

-- one declaration more
pub one_more_width : (zs : List SystemSize) (ds : List Decl) (k i : ℕ) (d : Decl) (o q : List ℕ) → i < length ds → d ≡ get_or ds i d
    → q ≡ o ++ declaration_widths zs k (decl_view d)
    → q ++ widths_by zs (parts_after k (decl_view d)) (map decl_view (drop (i + 1) ds)) ≡ o ++ widths_by zs k (map decl_view (drop i ds))
one_more_width zs ds k i d o q h e g =
    let a : i + 1 ≡ suc i = omega arith in
    let l : drop i ds ≡ d ∷ drop (suc i) ds = drop-cons ds i d h ∙ ap (λ y. y ∷ drop (suc i) ds) (sym e) in
    let rest : List ℕ = widths_by zs (parts_after k (decl_view d)) (map decl_view (drop (suc i) ds)) in
    rw a
    (ap (λ z. z ++ rest) g ∙ append_assoc o (declaration_widths zs k (decl_view d)) rest
    ∙ ap (λ ys. o ++ widths_by zs k (map decl_view ys)) (sym l))

-- ---- within the limits

none_passed : (l : Limit) (ls : List Limit) → passed (l ∷ ls) ≡ None → (l.0 ≡ false) × (passed ls ≡ None)
none_passed l ls e = go l.0 e
  where
    go : (b : Bool) → option_map (λ (l : Limit). l.1) (cond b (Some l) (find (λ (l : Limit). l.0) ls)) ≡ None → (b ≡ false) × (passed ls ≡ None)
    go true h = absurd (none_some l.1 (sym h))
      where
        none_some : (k : ℕ) → None ≡ Some k → ⊥
        none_some k h = cc
    go false h = (refl, h)

fourth : (a b c d : Limit) (ls : List Limit) → passed (a ∷ b ∷ c ∷ d ∷ ls) ≡ None → d.0 ≡ false
fourth a b c d ls e =
    let f : passed (b ∷ c ∷ d ∷ ls) ≡ None = (none_passed a (b ∷ c ∷ d ∷ ls) e).1 in
    let g : passed (c ∷ d ∷ ls) ≡ None = (none_passed b (c ∷ d ∷ ls) f).1 in
    let h : passed (d ∷ ls) ≡ None = (none_passed c (d ∷ ls) g).1 in
    (none_passed d ls h).0

no_fault : (w : Spelled) (ls : List Limit) → limit_fault w ls ≡ [] → passed ls ≡ None
no_fault w ls e = go (passed ls) e
  where
    go : (o : Option ℕ) → option_to_list (option_map (λ k. fault (too_many k) w.at) o) ≡ [] → o ≡ None
    go None h = refl
    go (Some k) h = not_nil _ _ h

-- a number that doesn't pass its limit isn't cut
under : (k x : ℕ) → nat_lt k x ≡ false → min (suc k) x ≡ x
under k x e = grind (arith, nat_tests)

all_within : (p : Program) (k : ℕ) (ds : Program) → limit_faults p k ds ≡ [] → map (λ n. (system_size p n).variables) (nodes_of ds) ≡ map (λ n. width (instance_of p n)) (nodes_of ds)
all_within p k [] e = refl
all_within p k (declared_constant c ∷ ds) e = all_within p k ds e
all_within p k (declared_contract n ∷ ds) e = all_within p (suc k) ds (no_parts (limit_fault n.name (text_limits k n)) (limit_faults p (suc k) ds) e).1
all_within p k (declared_node n ∷ ds) e =
    let i : Instance = instance_of p n in
    let r : (limit_fault n.name (text_limits k n ++ system_limits i) ≡ []) × (limit_faults p (suc k) ds ≡ []) =
    no_parts (limit_fault n.name (text_limits k n ++ system_limits i)) (limit_faults p (suc k) ds) e in
    let h : nat_lt 20000 (width i) ≡ false =
    fourth (at_most 500 (suc k)) (at_most 2000 (length (declared_in n))) (at_most 500 (length (properties i))) (at_most 20000 (width i))
    (drop 2 (system_limits i)) (no_fault n.name (text_limits k n ++ system_limits i) r.0) in
    λ j. under 20000 (width i) h j ∷ all_within p (suc k) ds r.1 j

-- a program within the limits has as many variables as the cut numbers say
module _ {A : Type 0} (p : Program) (main : Option Name) (ws : A → List ℕ) (r : Result A Refusal)
    (told : MatchResult r (λ _. HasNone (IsLimitFault p main)) (λ e. IsFirst (IsLimitFault p main) (refusal_view e)))
    (ys : List ℕ) (listed : IfOk r (λ a. ws a ≡ ys)) (counted : ys ≡ cut_widths p) where
  pub widths_told : IfOk r (λ a. ws a ≡ widths p)
  widths_told = go r told listed
    where
      exact : HasNone (IsLimitFault p main) → cut_widths p ≡ widths p
      exact h = all_within p 0 p (no_parts (main_faults p main) (limit_faults p 0 p) (empty_of (size_faults p main) h)).1

      go : (r : Result A Refusal) → MatchResult r (λ _. HasNone (IsLimitFault p main)) (λ e. IsFirst (IsLimitFault p main) (refusal_view e))
          → IfOk r (λ a. ws a ≡ ys) → IfOk r (λ a. ws a ≡ widths p)
      go (Ok a) h e = e ∙ (counted ∙ exact h)
      go (Err x) h e = tt
