-- In a program without faults of names and types each expression that stands in a declaration has a type, where it has
-- one value.
use Rattle.std.proofs.Common.{◌≡◌, ℕ, zero, suc, Bool, true, false, cond, ◌||◌, List, [], ◌∷◌, ◌++◌, map, flat_map, get_or, Some, refl, ap, subst, arith}
use Rattle.std.specs.Prelude.{is_some, slice_get, find, Contains}
use Rattle.std.specs.Option.{option_and_then}
use Rattle.std.specs.List.{AllByRecursion}
use Rattle.std.specs.Str.{bytes_eq}
use Rattle.std.proofs.lemmas.Bool.{false≢true}
use Rattle.lus_tree.specs.Tree.{Place, Name, text_of, Expression, name, Constant, Component, Declaration, declared_constant, declared_node, declared_contract, Program}
use Rattle.lus_tree.specs.Reason.{name_twice, not_constant}
use Rattle.lus_meaning.specs.Scene.{base, no_component}
use Rattle.lus_meaning.specs.Occurrences.{on_clock, Occurrence, occurrences}
use Rattle.lus_meaning.specs.Program.{constant_values}
use Rattle.lus_meaning.specs.Depends.{named_in}
use Rattle.lus_meaning.specs.WellMade.{AreDistinct}
use Rattle.lus_meaning.specs.Scope.{Entry, Scope, is_constant_name, type_of, first_constants, left_after, known_after, constants_declared}
use Rattle.lus_meaning.specs.Faults.{fault, words_twice}
use Rattle.lus_meaning.specs.ExpressionFaults.{definition_faults, expression_faults, hinders_constant, not_allowed}
use Rattle.lus_meaning.specs.NameFaults.{component_faults, constant_words, declaration_faults, declaration_word, home, outer_scope, typing_faults}
use Rattle.lus_meaning.specs.Refusals.{IsTyped}
use Rattle.lus_meaning.proofs.NamesOnce.{at_one, empty_of, no_parts, none_twice, not_nil}
use Rattle.lus_meaning.proofs.RulesFit.{none_mapped}
use Rattle.rule_laws.specs.Laws.{placed}
use Rattle.rule_laws.proofs.Cleaned.{outer_clean, outer_table}
use Rattle.rule_laws.proofs.Constants.{Good, Values, all_good, fixed_in, fixed_of, is_word}
use Rattle.rule_laws.proofs.Texts.{no_positions}
use Rattle.rule_laws.proofs.Truths.{first_false, second_false}
use Rattle.lus_types.specs.Names.{scope_of, scopes_from, sort_in}
use Rattle.lus_types.specs.Standing.{StandsIn, has_one_value, occurrences_of}
use Rattle.lus_types.proofs.SortedParts.{all_sorted}
use Rattle.lus_types.proofs.SortedTexts.{all_have_sorts}

-- ---- the constants of the program

abbrev words_of : Program → List Name
words_of ds = map text_of (map declaration_word ds)

abbrev fixed_names : Program → List Name
fixed_names ds = map (λ c. c.name.text) (fixed_of (constants_declared ds))

neither : (a b : Bool) → a ≡ false → b ≡ false → (a || b) ≡ false
neither a b e f = rw (e, f) refl

not_fixed : (x : Name) (ds : Program) → named_in x (words_of ds) ≡ false → named_in x (fixed_names ds) ≡ false
not_fixed x [] e = refl
not_fixed x (declared_constant c ∷ ds) e =
    neither (bytes_eq x c.name.text) (named_in x (fixed_names ds)) (first_false (bytes_eq x c.name.text) (named_in x (words_of ds)) e)
    (not_fixed x ds (second_false (bytes_eq x c.name.text) (named_in x (words_of ds)) e))
not_fixed x (declared_node n ∷ ds) e = not_fixed x ds (second_false (bytes_eq x n.name.text) (named_in x (words_of ds)) e)
not_fixed x (declared_contract n ∷ ds) e = not_fixed x ds (second_false (bytes_eq x n.name.text) (named_in x (words_of ds)) e)

fixed_once : (ds : Program) → AreDistinct (words_of ds) → AreDistinct (fixed_names ds)
fixed_once [] d = tt
fixed_once (declared_constant c ∷ ds) d = (not_fixed c.name.text ds d.0, fixed_once ds d.1)
fixed_once (declared_node n ∷ ds) d = fixed_once ds d.1
fixed_once (declared_contract n ∷ ds) d = fixed_once ds d.1

-- a constant that is found has a type
fixed_sort : (cs : Values) (x : Name) (k : ℕ) (es : List Entry) → AllByRecursion (Good cs) es
    → fixed_in (find (is_word x) (first_constants k es)) ≡ true
    → is_some (option_and_then (λ e. e.sort) (find (is_word x) (first_constants k es))) ≡ true
fixed_sort cs x k [] a f = absurd (false≢true f)
fixed_sort cs x k (e ∷ es) a f = go (bytes_eq x e.word.text) f (fixed_sort cs x (left_after k e) es a.1)
  where
    go : (b : Bool) → fixed_in (cond b (Some (known_after k e)) (find (is_word x) (first_constants (left_after k e) es))) ≡ true
        → (fixed_in (find (is_word x) (first_constants (left_after k e) es)) ≡ true
        → is_some (option_and_then (λ e. e.sort) (find (is_word x) (first_constants (left_after k e) es))) ≡ true)
        → is_some (option_and_then (λ e. e.sort) (cond b (Some (known_after k e)) (find (is_word x) (first_constants (left_after k e) es)))) ≡ true
    go true g r = ap is_some (a.0 g).is_sort
    go false g r = r g

pub first_of : {A : Type 0} (x : A) (xs : List A) → Contains (x ∷ xs) x
first_of x xs = (0, omega arith, refl)

pub behind_first : {A : Type 0} (y x : A) (xs : List A) → Contains xs x → Contains (y ∷ xs) x
behind_first y x xs (k, l, e) = (suc k, omega arith, e)

module _ (p : Program) (typed : IsTyped p) where
  abbrev later_faults : (words_twice name_twice (map declaration_word p) ≡ []) × (declaration_faults p 0 p ≡ [])
  later_faults = no_parts (words_twice name_twice (map declaration_word p)) (declaration_faults p 0 p)
      (no_parts _ (words_twice name_twice (map declaration_word p) ++ declaration_faults p 0 p) (empty_of (typing_faults p) typed)).1

  pub fixed_good : AllByRecursion (Good (constant_values [] (fixed_of (constants_declared p)))) (outer_table p)
  fixed_good =
      all_good p (outer_table p) [] [] (constants_declared p) [] refl tt tt tt
      (fixed_once p (none_twice name_twice (map declaration_word p) later_faults.0)) (outer_clean p 0 p later_faults.1)

  -- the expressions of a declaration behind so many constants have types, where they have one value
  abbrev HasSort : ℕ → Declaration → Occurrence → Type 0
  HasSort k d o = has_one_value p o.expression ≡ true → is_some (type_of (scope_of p k d) o.expression) ≡ true

  constant_sorted : (k : ℕ) (c : Constant) → definition_faults (outer_scope p k) c.sort c.value ≡ []
      → AllByRecursion (HasSort k (declared_constant c)) (occurrences_of (declared_constant c))
  constant_sorted k c f =
      let s : Scope = outer_scope p k in
      let allowed : not_allowed s c.value ≡ [] = (no_parts (not_allowed s c.value) (expression_faults s (on_clock base) c.value)
      (no_parts (not_allowed s c.value ++ expression_faults s (on_clock base) c.value) _ f).0).0 in
      all_sorted (λ o. hinders_constant s o.expression ≡ []) no_component s
      (λ t q x h. fixed_sort _ x k (outer_table p) fixed_good (is_fixed s x q h))
      (λ t q j g as_ h w. not_nil _ _ h) (λ t q j a g as_ ds h w. not_nil _ _ h) (on_clock base) c.value
      (none_mapped (λ o. hinders_constant s o.expression) (occurrences no_component (on_clock base) c.value)
      (no_positions (fault not_constant) (flat_map (λ o. hinders_constant s o.expression) (occurrences no_component (on_clock base) c.value)) allowed))
    where
      is_fixed : (s : Scope) (x : Name) (q : Place) → hinders_constant s (name q x) ≡ [] → is_constant_name s x ≡ true
      is_fixed s x q h = go (is_constant_name s x) h
        where
          go : (b : Bool) → cond b [] (q.at ∷ []) ≡ [] → b ≡ true
          go true e = refl
          go false e = not_nil _ _ e

  -- ---- by the number of a declaration

  none_there : {A : Type 0} (o : A) → Contains [] o → ⊥
  none_there o (k, l, e) = absurd (omega arith)

  sorted_at : (k : ℕ) (ds : List Declaration) → declaration_faults p k ds ≡ []
      → ((h : ℕ × Component) → Contains (placed k ds) h → Contains (placed 0 p) h) → (d : ℕ) (o : Occurrence)
      → Contains (get_or (map occurrences_of ds) d []) o → has_one_value p o.expression ≡ true
      → is_some (option_and_then (λ s. type_of s o.expression) (slice_get (scopes_from p k ds) d)) ≡ true
  sorted_at k [] f within d o i one = absurd (none_there o i)
  sorted_at k (declared_constant c ∷ ds) f within zero o i one =
      at_one (HasSort k (declared_constant c)) (occurrences_of (declared_constant c)) o
      (constant_sorted k c (no_parts (definition_faults (outer_scope p k) c.sort c.value) (declaration_faults p (suc k) ds) f).0) i one
  sorted_at k (declared_constant c ∷ ds) f within (suc d) o i one =
      sorted_at (suc k) ds (no_parts (definition_faults (outer_scope p k) c.sort c.value) (declaration_faults p (suc k) ds) f).1 within d o i one
  sorted_at k (declared_node n ∷ ds) f within zero o i one =
      at_one (HasSort k (declared_node n)) (occurrences_of (declared_node n)) o
      (all_have_sorts p typed (k, n) (within (k, n) (first_of (k, n) (placed k ds)))) i one
  sorted_at k (declared_node n ∷ ds) f within (suc d) o i one =
      sorted_at k ds (no_parts (component_faults (home p k n) (constant_words p)) (declaration_faults p k ds) f).1
      (λ h j. within h (behind_first (k, n) h (placed k ds) j)) d o i one
  sorted_at k (declared_contract n ∷ ds) f within zero o i one =
      at_one (HasSort k (declared_contract n)) (occurrences_of (declared_contract n)) o
      (all_have_sorts p typed (k, n) (within (k, n) (first_of (k, n) (placed k ds)))) i one
  sorted_at k (declared_contract n ∷ ds) f within (suc d) o i one =
      sorted_at k ds (no_parts (component_faults (home p k n) (constant_words p)) (declaration_faults p k ds) f).1
      (λ h j. within h (behind_first (k, n) h (placed k ds) j)) d o i one

  pub has_sort : (d : ℕ) (e : Expression) → StandsIn p d e → has_one_value p e ≡ true → is_some (sort_in p d e) ≡ true
  has_sort d e (o, i, same) one =
      subst (λ e. has_one_value p e ≡ true → is_some (sort_in p d e) ≡ true) same
      (sorted_at 0 p later_faults.1 (λ h j. j) d o i) one
