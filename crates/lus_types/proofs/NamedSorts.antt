-- In a program without faults of names and types each name that is found has a type.
use Rattle.std.proofs.Common.{◌≡◌, ℕ, zero, suc, Bool, true, false, cond, List, [], ◌∷◌, ◌++◌, Some, refl, sym, ap, ◌∙◌}
use Rattle.std.specs.Prelude.{is_some, slice_get, find, Contains}
use Rattle.std.specs.Option.{option_and_then}
use Rattle.std.specs.List.{AllByRecursion}
use Rattle.std.specs.Str.{bytes_eq}
use Rattle.lus_tree.specs.Tree.{Name, Component, Declaration, declared_constant, declared_node, declared_contract, Program}
use Rattle.lus_meaning.specs.Scope.{Entry, a_fixed, constants_declared, entries_from, entry_for, names_only, is_constant_role, outer_names, own_names}
use Rattle.lus_meaning.specs.NameFaults.{home}
use Rattle.lus_meaning.specs.Refusals.{IsTyped}
use Rattle.lus_meaning.proofs.Lists.{both_parts}
use Rattle.rule_laws.specs.Laws.{placed}
use Rattle.rule_laws.proofs.Constants.{Good, Values, is_word, not_none}
use Rattle.rule_laws.proofs.Tables.{typed_tables}
use Rattle.rule_laws.proofs.Truths.{same_some}
use Rattle.lus_types.specs.Names.{Known, constant_entries, constant_in, known_among, known_from, name_in, names_from}
use Rattle.lus_types.proofs.HasSort.{behind_first, first_of, fixed_good}

-- an entry of that type, which is the first of the name whatever stands behind
record Of (x : Name) (es os : List Entry) (q : Known) : Type 0 where
  entry : Entry
  first : find (is_word x) (es ++ os) ≡ Some entry
  sort : q.sort ≡ entry.sort

entry_of : (x : Name) (i : ℕ) (es os : List Entry) (q : Known) → known_from i es x ≡ Some q → Of x es os q
entry_of x i [] os q f = not_none q f
entry_of x i (e ∷ es) os q f = go (bytes_eq x e.word.text) refl f (entry_of x (suc i) es os q)
  where
    go : (b : Bool) → bytes_eq x e.word.text ≡ b
        → cond b (Some record { role = e.role; number = i; sort = e.sort }) (known_from (suc i) es x) ≡ Some q
        → (known_from (suc i) es x ≡ Some q → Of x es os q) → Of x (e ∷ es) os q
    go true m g r = record {
      entry = e;
      first = ap (λ b. cond b (Some e) (find (is_word x) (es ++ os))) m;
      sort = ap (λ (k : Known). k.sort) (sym (same_some g));
    }
    go false m g r =
        let o : Of x es os q = r g in
        record { entry = o.entry; first = ap (λ b. cond b (Some e) (find (is_word x) (es ++ os))) m ∙ o.first; sort = o.sort }

module _ (p : Program) (typed : IsTyped p) where
  own_named : (h : ℕ × Component) → Contains (placed 0 p) h → (x : Name) (q : Known) → known_among (own_names (home p h.0 h.1)) x ≡ Some q
      → is_some q.sort ≡ true
  own_named h i x q f =
      let o : Of x (own_names (home p h.0 h.1)) (outer_names p h.0) q = entry_of x 0 (own_names (home p h.0 h.1)) (outer_names p h.0) q f in
      ap is_some (o.sort ∙ (typed_tables p typed h i x o.entry o.first).sort)

  named_at : (k : ℕ) (ds : List Declaration) → ((h : ℕ × Component) → Contains (placed k ds) h → Contains (placed 0 p) h) → (d : ℕ) (x : Name)
      (q : Known) → option_and_then (λ es. known_among es x) (slice_get (names_from p k ds) d) ≡ Some q → is_some q.sort ≡ true
  named_at k [] within d x q f = not_none q f
  named_at k (declared_constant c ∷ ds) within zero x q f = not_none q f
  named_at k (declared_constant c ∷ ds) within (suc d) x q f = named_at (suc k) ds within d x q f
  named_at k (declared_node n ∷ ds) within zero x q f = own_named (k, n) (within (k, n) (first_of (k, n) (placed k ds))) x q f
  named_at k (declared_node n ∷ ds) within (suc d) x q f = named_at k ds (λ h j. within h (behind_first (k, n) h (placed k ds) j)) d x q f
  named_at k (declared_contract n ∷ ds) within zero x q f = own_named (k, n) (within (k, n) (first_of (k, n) (placed k ds))) x q f
  named_at k (declared_contract n ∷ ds) within (suc d) x q f = named_at k ds (λ h j. within h (behind_first (k, n) h (placed k ds) j)) d x q f

  pub name_sorted : (d : ℕ) (x : Name) (q : Known) → name_in p d x ≡ Some q → is_some q.sort ≡ true
  name_sorted d x q f = named_at 0 p (λ h j. j) d x q f

-- ---- the constants of the program

all_constants : (p : Program) (done : List Entry) (ds : Program) → AllByRecursion (λ e. is_constant_role e.role ≡ true) done
    → AllByRecursion (λ e. is_constant_role e.role ≡ true) (entries_from p [] done (constants_declared ds))
all_constants p done [] a = a
all_constants p done (declared_constant c ∷ ds) a =
    let e : Entry = entry_for (names_only p (done ++ [])) (a_fixed c) in
    all_constants p (done ++ e ∷ []) ds (both_parts (λ e. is_constant_role e.role ≡ true) done (e ∷ []) a (refl, tt))
all_constants p done (declared_node n ∷ ds) a = all_constants p done ds a
all_constants p done (declared_contract n ∷ ds) a = all_constants p done ds a

fixed_known : (cs : Values) (x : Name) (i : ℕ) (es : List Entry) (q : Known) → AllByRecursion (Good cs) es
    → AllByRecursion (λ e. is_constant_role e.role ≡ true) es → known_from i es x ≡ Some q → is_some q.sort ≡ true
fixed_known cs x i [] q g a f = not_none q f
fixed_known cs x i (e ∷ es) q g a f = go (bytes_eq x e.word.text) f (fixed_known cs x (suc i) es q g.1 a.1)
  where
    go : (b : Bool) → cond b (Some record { role = e.role; number = i; sort = e.sort }) (known_from (suc i) es x) ≡ Some q
        → (known_from (suc i) es x ≡ Some q → is_some q.sort ≡ true) → is_some q.sort ≡ true
    go true h r = ap (λ (k : Known). is_some k.sort) (sym (same_some h)) ∙ ap is_some (g.0 a.0).is_sort
    go false h r = r h

pub constant_sorted : (p : Program) → IsTyped p → (x : Name) (q : Known) → constant_in p x ≡ Some q → is_some q.sort ≡ true
constant_sorted p typed x q f = fixed_known _ x 0 (constant_entries p) q (fixed_good p typed) (all_constants p [] p tt) f
