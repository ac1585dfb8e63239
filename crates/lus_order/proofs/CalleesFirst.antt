-- Again and again a declaration is learned of which all that it calls and imports is known; then none is left.
use Rattle.std.proofs.Common.{◌≡◌, ℕ, zero, suc, ◌<◌, ◌≤◌, ◌+◌, Bool, true, false, cond, not, List, [], ◌∷◌, ◌++◌, map, length, Some, None, unwrap_or, drop, get_or, refl, sym, ap, ◌∙◌, subst, arith}
use Rattle.std.specs.Prelude.{Contains, filter}
use Rattle.std.specs.List.{find}
use Rattle.std.proofs.Math.Logic.{◌⊎◌, inl, inr}
use Rattle.std.proofs.lemmas.Bool.{false≢true, cases_Bool}
use Rattle.std.proofs.lemmas.List.{append_assoc, drop_more}
use Rattle.std.proofs.lemmas.Option.{none-some}
use Rattle.lus_tree.specs.Tree.{Name, Component, Program}
use Rattle.lus_meaning.specs.ClockFaults.{components}
use Rattle.lus_meaning.specs.Depends.{named_in}
use Rattle.lus_meaning.specs.Program.{all_sites}
use Rattle.lus_meaning.specs.Refusals.{IsTyped}
use Rattle.lus_meaning.specs.RuleLaws.{callee_of}
use Rattle.lus_meaning.specs.Scene.{Site}
use Rattle.lus_limits.specs.Calls.{Called, called_of}
use Rattle.rule_laws.proofs.Truths.{both_true}
use Rattle.name_table.proofs.Names.{itself, in_joined}
use Rattle.way_laws.specs.Laws.{GoesLower}
use Rattle.way_laws.proofs.Callees.{callees_lower}
use Rattle.lus_order.specs.Declarations.{with_calls, are_known, is_next}
use Rattle.number_graphs.proofs.Searches.{or_right}
use Rattle.lus_order.proofs.Stands.{or_left}

abbrev pub Entry : Type 0
Entry = Component × List Called

-- ---- lists

-- one more is mapped
pub one_mapped : {A B : Type 0} (f : A → B) (xs : List A) (i : ℕ) (x : A) (old new all : List B) → i < length xs → x ≡ get_or xs i x
    → old ++ map f (drop i xs) ≡ all → new ≡ old ++ f x ∷ [] → new ++ map f (drop (i + 1) xs) ≡ all
one_mapped f xs i x old new all l is e h =
    ap (λ z. z ++ map f (drop (i + 1) xs)) h
    ∙ append_assoc old (f x ∷ []) (map f (drop (i + 1) xs))
    ∙ ap (λ z. old ++ (f z ∷ map f (drop (i + 1) xs))) is
    ∙ sym (ap (λ z. old ++ map f z) (drop_more xs i x l))
    ∙ e

pub mapped_from : {A B : Type 0} (f : A → B) (xs : List A) (y : B) → Contains (map f xs) y → (x : A) × Contains xs x × (f x ≡ y)
mapped_from f [] y (k, l, e) = absurd (omega arith)
mapped_from f (x ∷ xs) y (zero, l, e) = (x, (0, omega arith, refl), e)
mapped_from f (x ∷ xs) y (suc k, l, e) = go (mapped_from f xs y (k, omega arith, e))
  where
    go : (z : _) × Contains xs z × (f z ≡ y) → (z : _) × Contains (x ∷ xs) z × (f z ≡ y)
    go (z, (j, m, h), s) = (z, (suc j, omega arith, h), s)

module _ (test : Entry → Bool) where
  pub found_stands : (ds : List Entry) (d : Entry) → find test ds ≡ Some d → Contains ds d × (test d ≡ true)
  found_stands [] d e = absurd (none-some d e)
  found_stands (c ∷ ds) d e = go (test c) refl e (found_stands ds d)
    where
      go : (b : Bool) → test c ≡ b → cond b (Some c) (find test ds) ≡ Some d → (find test ds ≡ Some d → Contains ds d × (test d ≡ true))
          → Contains (c ∷ ds) d × (test d ≡ true)
      go true h f r =
          let s : c ≡ d = ap (λ o. unwrap_or o c) f in
          ((0, omega arith, s), subst (λ z. test z ≡ true) s h)
      go false h f r = let q : Contains ds d × (test d ≡ true) = r f in later q.0 q.1
        where
          later : Contains ds d → test d ≡ true → Contains (c ∷ ds) d × (test d ≡ true)
          later (k, l, s) t = ((suc k, omega arith, s), t)

  pub none_stands : (ds : List Entry) → find test ds ≡ None → (d : Entry) → Contains ds d → test d ≡ false
  none_stands [] e d (k, l, s) = absurd (omega arith)
  none_stands (c ∷ ds) e d i = go (test c) refl e (none_stands ds) i
    where
      go : (b : Bool) → test c ≡ b → cond b (Some c) (find test ds) ≡ None → (find test ds ≡ None → (z : Entry) → Contains ds z → test z ≡ false)
          → Contains (c ∷ ds) d → test d ≡ false
      go true h f r j = absurd (none-some c (sym f))
      go false h f r (zero, l, s) = subst (λ z. test z ≡ false) s h
      go false h f r (suc k, l, s) = r f d (k, omega arith, s)

-- ---- what is called

each_known : (names : List Name) (ss : List Site) → are_known names (map called_of ss) ≡ true → (s : Site) → Contains ss s → named_in s.callee names ≡ true
each_known names [] e s (k, l, h) = absurd (omega arith)
each_known names (c ∷ ss) e s (zero, l, h) = subst (λ (z : Site). named_in z.callee names ≡ true) h
    (both_true (named_in c.callee names) (are_known names (map called_of ss)) e).0
each_known names (c ∷ ss) e s (suc k, l, h) = each_known names ss (both_true (named_in c.callee names) (are_known names (map called_of ss)) e).1 s
    (k, omega arith, h)

all_known : (names : List Name) (ss : List Site) → ((s : Site) → Contains ss s → named_in s.callee names ≡ true) → are_known names (map called_of ss) ≡ true
all_known names [] a = refl
all_known names (c ∷ ss) a = rw (a c (0, omega arith, refl), all_known names ss (λ s i. a s (behind i))) refl
  where
    behind : {s : Site} → Contains ss s → Contains (c ∷ ss) s
    behind (k, l, h) = (suc k, omega arith, h)

not_named : (b : Bool) → not b ≡ true → b ≡ false
not_named true e = absurd (false≢true e)
not_named false e = refl

pub next_is : (names : List Name) (n : Component) → is_next names (with_calls n) ≡ true
    → (named_in n.name.text names ≡ false) × ((s : Site) → Contains (all_sites n) s → named_in s.callee names ≡ true)
next_is names n e =
    let q : (not (named_in n.name.text names) ≡ true) × (are_known names (map called_of (all_sites n)) ≡ true) =
    both_true (not (named_in n.name.text names)) (are_known names (map called_of (all_sites n))) e in
    (not_named (named_in n.name.text names) q.0, each_known names (all_sites n) q.1)

-- ---- none is left

module _ (p : Program) (typed : IsTyped p) (names : List Name) (none : find (is_next names) (map with_calls (components p)) ≡ None) where
  not_next : (n : Component) → Contains (components p) n → is_next names (with_calls n) ≡ false
  not_next n (k, l, e) = none_stands (is_next names) (map with_calls (components p)) none (with_calls n) (stands (components p) n (k, l, e))
    where
      stands : (ns : List Component) (m : Component) → Contains ns m → Contains (map with_calls ns) (with_calls m)
      stands [] m (j, a, h) = absurd (omega arith)
      stands (c ∷ ns) m (zero, a, h) = (0, omega arith, ap with_calls h)
      stands (c ∷ ns) m (suc j, a, h) = later (stands ns m (j, omega arith, h))
        where
          later : Contains (map with_calls ns) (with_calls m) → Contains (map with_calls (c ∷ ns)) (with_calls m)
          later (i, b, g) = (suc i, omega arith, g)

  abbrev rank : Component → ℕ
  rank = (callees_lower p typed).0

  named_below : (fuel : ℕ) (n : Component) → Contains (components p) n → rank n < fuel → named_in n.name.text names ≡ true
  named_below zero n d l = absurd (omega arith)
  named_below (suc fuel) n d l = go (cases_Bool (named_in n.name.text names)) (named_below fuel)
    where
      called : ((m : Component) → Contains (components p) m → rank m < fuel → named_in m.name.text names ≡ true)
          → (s : Site) → Contains (all_sites n) s → named_in s.callee names ≡ true
      called r s i =
          let a : GoesLower p rank n s = (callees_lower p typed).1 n d s i in
          let b : rank (callee_of p s) < rank n = a.lower in
          subst (λ x. named_in x names ≡ true) a.named (r (callee_of p s) a.declared (omega arith))

      go : (named_in n.name.text names ≡ true) ⊎ (named_in n.name.text names ≡ false)
          → ((m : Component) → Contains (components p) m → rank m < fuel → named_in m.name.text names ≡ true) → named_in n.name.text names ≡ true
      go (inl e) r = e
      go (inr e) r = absurd (false≢true (sym (not_next n d) ∙ both))
        where
          both : is_next names (with_calls n) ≡ true
          both = rw (e, all_known names (all_sites n) (called r)) refl

  pub all_named : (n : Component) → Contains (components p) n → named_in n.name.text names ≡ true
  all_named n d = named_below (suc (rank n)) n d (omega arith)

-- ---- fewer are left

abbrev pub left : List Name → List Entry → List Entry
left names ds = filter (λ d. not (named_in d.0.name.text names)) ds

module _ (names : List Name) (f : Name) where
  abbrev more : List Name
  more = names ++ f ∷ []

  no_more : (ds : List Entry) → length (left more ds) ≤ length (left names ds)
  no_more [] = omega arith
  no_more (d ∷ ds) = go (named_in d.0.name.text names) (named_in d.0.name.text more) kept (no_more ds)
    where
      kept : named_in d.0.name.text names ≡ true → named_in d.0.name.text more ≡ true
      kept e = in_joined d.0.name.text names (f ∷ []) ∙ or_left _ _ e

      go : (a b : Bool) → (a ≡ true → b ≡ true) → length (left more ds) ≤ length (left names ds)
          → length (cond (not b) (d ∷ left more ds) (left more ds)) ≤ length (cond (not a) (d ∷ left names ds) (left names ds))
      go true true k h = h
      go true false k h = absurd (false≢true (k refl))
      go false true k h = omega arith
      go false false k h = omega arith

  pub fewer : (ds : List Entry) (d : Entry) → Contains ds d → d.0.name.text ≡ f → named_in f names ≡ false
      → length (left more ds) < length (left names ds)
  fewer [] d (k, l, e) s fresh = absurd (omega arith)
  fewer (c ∷ ds) d (zero, l, e) s fresh =
      let same : c.0.name.text ≡ f = ap (λ (z : Entry). z.0.name.text) e ∙ s in
      go (named_in c.0.name.text names) (named_in c.0.name.text more) (ap (λ x. named_in x names) same ∙ fresh)
      (ap (λ x. named_in x more) same ∙ (in_joined f names (f ∷ []) ∙ or_right (named_in f names) _ (or_left _ _ (itself f)))) (no_more ds)
    where
      go : (a b : Bool) → a ≡ false → b ≡ true → length (left more ds) ≤ length (left names ds)
          → length (cond (not b) (c ∷ left more ds) (left more ds)) < length (cond (not a) (c ∷ left names ds) (left names ds))
      go false true e f h = omega arith
      go true b e f h = absurd (false≢true (sym e))
      go false false e f h = absurd (false≢true f)
  fewer (c ∷ ds) d (suc k, l, e) s fresh = go (named_in c.0.name.text names) (named_in c.0.name.text more) kept
      (fewer ds d (k, omega arith, e) s fresh)
    where
      kept : named_in c.0.name.text names ≡ true → named_in c.0.name.text more ≡ true
      kept h = in_joined c.0.name.text names (f ∷ []) ∙ or_left _ _ h

      go : (a b : Bool) → (a ≡ true → b ≡ true) → length (left more ds) < length (left names ds)
          → length (cond (not b) (c ∷ left more ds) (left more ds)) < length (cond (not a) (c ∷ left names ds) (left names ds))
      go true true q h = h
      go true false q h = absurd (false≢true (q refl))
      go false true q h = omega arith
      go false false q h = omega arith
