-- Where no term compares numbers, the query has no atom.
use Rattle.std.specs.Prelude.{ℕ, zero, suc, ◌≡◌, Bool, true, false, ◌&&◌, List, [], ◌∷◌, ◌++◌, map, slice_get, Result, Ok, Err, refl}
use Rattle.std.proofs.Common.{subst, ap, ◌∙◌}
use Rattle.kind_num.specs.declared.Past.{Past}
use Rattle.proof_steps.specs.declared.Literal.{Literal}
use Rattle.proof_steps.specs.Rows.{Form}
use Rattle.sys_terms.specs.View.{Formula, truth, flag, negation, both, same, choice, at_most, equal, Machine, Task, base, step, lemma_first, lemma_next, implied, with_states}
use Rattle.sys_terms.specs.Queries.{placed, variables, all_placed, at_state, step_after, steps_from, loose_path_to, path_to, some_path_to, or_true, property_term, true_from, each_at, before, path_of, asked_of, conditions_of}
use Rattle.sys_terms.proofs.Placed.{both_true}
use Rattle.cnf_maker.specs.ClauseForm.{literal_of, with_condition, with_conditions, truth_form}
use Rattle.cnf_maker.proofs.Plain.{Gets, gets-then}
use Rattle.sys_terms.specs.Boolean.{is_boolean}
use Rattle.smt_solver.specs.Boolean.{all_boolean, is_boolean_machine, all_boolean_at, is_boolean_task, BooleanQueriesHaveNoAtoms}

-- no atom is made
abbrev Stays : Form → Form × Literal → Type 0
Stays f p = p.0.atoms ≡ f.atoms

literal-stays : (t : ℕ) (f : Form) (g : Formula) → is_boolean g ≡ true → Gets (Stays f) (literal_of t f g)
literal-stays t f (truth b) h = refl
literal-stays t f (flag v) h = refl
literal-stays t f (negation g) h = gets-then (Stays f) _ (literal_of t f g) _ (literal-stays t f g h) (λ p s. s)
literal-stays t f (both g h) q = let k = both_true _ _ q in
    gets-then (Stays f) _ (literal_of t f g) _ (literal-stays t f g k.0)
    (λ p s. gets-then (Stays p.0) _ (literal_of t p.0 h) _ (literal-stays t p.0 h k.1) (λ u v. v ∙ s))
literal-stays t f (same g h) q = let k = both_true _ _ q in
    gets-then (Stays f) _ (literal_of t f g) _ (literal-stays t f g k.0)
    (λ p s. gets-then (Stays p.0) _ (literal_of t p.0 h) _ (literal-stays t p.0 h k.1) (λ u v. v ∙ s))
literal-stays t f (choice c g h) q = let k = both_true _ _ q in let n = both_true _ _ k.1 in
    gets-then (Stays f) _ (literal_of t f c) _ (literal-stays t f c k.0)
    (λ p s. gets-then (Stays p.0) _ (literal_of t p.0 g) _ (literal-stays t p.0 g n.0)
    (λ u v. gets-then (Stays u.0) _ (literal_of t u.0 h) _ (literal-stays t u.0 h n.1) (λ w x. x ∙ v ∙ s)))
literal-stays t f (at_most a b) h = absurd cc
literal-stays t f (equal a b) h = absurd cc

abbrev AsMany : Form → Form → Type 0
AsMany f g = g.atoms ≡ f.atoms

conditions-stay : (t : ℕ) (f : Form) (gs : List Formula) → all_boolean gs ≡ true
    → Gets (AsMany f) (with_conditions t f gs)
conditions-stay t f [] h = refl
conditions-stay t f (g ∷ gs) h = let k = both_true _ _ h in
    gets-then (AsMany f) _ (with_condition t f g) _
    (gets-then (Stays f) _ (literal_of t f g) _ (literal-stays t f g k.0) (λ p s. s))
    (λ m s. onward f m (with_conditions t m gs) s (conditions-stay t m gs k.1)) where
      onward : (f m : Form) (r : Result Form Past) → AsMany f m → Gets (AsMany m) r → Gets (AsMany f) r
      onward f m (Ok g) s u = u ∙ s
      onward f m (Err p) s u = tt

-- placed terms compare what the terms compare
placed-same : (n j : ℕ) (f : Formula) → is_boolean (placed n j f) ≡ is_boolean f
placed-same n j (truth b) = refl
placed-same n j (flag v) = refl
placed-same n j (negation f) = placed-same n j f
placed-same n j (both f g) = rw (placed-same n j f, placed-same n j g) refl
placed-same n j (same f g) = rw (placed-same n j f, placed-same n j g) refl
placed-same n j (choice c f g) = rw (placed-same n j c, placed-same n j f, placed-same n j g) refl
placed-same n j (at_most a b) = refl
placed-same n j (equal a b) = refl

all-append : (xs ys : List Formula) → all_boolean xs ≡ true → all_boolean ys ≡ true → all_boolean (xs ++ ys) ≡ true
all-append [] ys h g = g
all-append (x ∷ xs) ys h g = let k = both_true (is_boolean x) (all_boolean xs) h in
    ap (λ b. b && all_boolean (xs ++ ys)) k.0 ∙ all-append xs ys k.1 g

all-placed : (n j : ℕ) (fs : List Formula) → all_boolean fs ≡ true → all_boolean (map (placed n j) fs) ≡ true
all-placed n j [] h = refl
all-placed n j (f ∷ fs) h = let k = both_true _ _ h in
    rw (placed-same n j f ∙ k.0, all-placed n j fs k.1) refl

one : (n j : ℕ) (f : Formula) → is_boolean f ≡ true → is_boolean (placed n j f) ≡ true
one n j f h = placed-same n j f ∙ h

last : (n j : ℕ) (f : Formula) → is_boolean f ≡ true → all_boolean (placed n j f ∷ []) ≡ true
last n j f h = rw (one n j f h) refl

named : (fs : List Formula) (p : ℕ) → all_boolean fs ≡ true → is_boolean (or_true (slice_get fs p)) ≡ true
named [] p h = refl
named (f ∷ fs) zero h = (both_true _ _ h).0
named (f ∷ fs) (suc p) h = named fs p (both_true _ _ h).1

module _ (m : Machine) (cites : List Formula) (h : is_boolean_machine m ≡ true) (c : all_boolean cites ≡ true) where
  after_first : (all_boolean m.here && (all_boolean m.next && (all_boolean m.legal && all_boolean m.properties))) ≡ true
  after_first = (both_true (all_boolean m.first)
      (all_boolean m.here && (all_boolean m.next && (all_boolean m.legal && all_boolean m.properties))) h).1

  after_here : (all_boolean m.next && (all_boolean m.legal && all_boolean m.properties)) ≡ true
  after_here = (both_true (all_boolean m.here)
      (all_boolean m.next && (all_boolean m.legal && all_boolean m.properties)) after_first).1

  after_next : (all_boolean m.legal && all_boolean m.properties) ≡ true
  after_next = (both_true (all_boolean m.next) (all_boolean m.legal && all_boolean m.properties) after_here).1

  first : all_boolean m.first ≡ true
  first = (both_true (all_boolean m.first)
      (all_boolean m.here && (all_boolean m.next && (all_boolean m.legal && all_boolean m.properties))) h).0

  here : all_boolean m.here ≡ true
  here = (both_true (all_boolean m.here)
      (all_boolean m.next && (all_boolean m.legal && all_boolean m.properties)) after_first).0

  next : all_boolean m.next ≡ true
  next = (both_true (all_boolean m.next) (all_boolean m.legal && all_boolean m.properties) after_here).0

  legal : all_boolean m.legal ≡ true
  legal = (both_true (all_boolean m.legal) (all_boolean m.properties) after_next).0

  properties : all_boolean m.properties ≡ true
  properties = (both_true (all_boolean m.legal) (all_boolean m.properties) after_next).1

  property : (p : ℕ) → is_boolean (property_term m p) ≡ true
  property p = named m.properties p properties

  state : (j : ℕ) → all_boolean (at_state m cites j) ≡ true
  state j =
      all-append (all_placed m j m.here ++ all_placed m j m.legal) (all_placed m j cites)
      (all-append (all_placed m j m.here) (all_placed m j m.legal) (all-placed (variables m) j m.here here)
      (all-placed (variables m) j m.legal legal))
      (all-placed (variables m) j cites c)

  after : (j : ℕ) → all_boolean (step_after m cites j) ≡ true
  unfolding step_after
  after j = all-append (all_placed m j m.next) (at_state m cites (suc j)) (all-placed (variables m) j m.next next)
      (state (suc j))

  steps : (j more : ℕ) → all_boolean (steps_from m cites j more) ≡ true
  steps j zero = refl
  steps j (suc more) = all-append (step_after m cites j) (steps_from m cites (suc j) more) (after j) (steps (suc j) more)

  loose : (n : ℕ) → all_boolean (loose_path_to m cites n) ≡ true
  loose n = all-append (at_state m cites 0) (steps_from m cites 0 n) (state 0) (steps 0 n)

  path : (n : ℕ) → all_boolean (path_to m cites n) ≡ true
  path n = all-append (all_placed m 0 m.first) (loose_path_to m cites n) (all-placed (variables m) 0 m.first first) (loose n)

  some : (b : Bool) (n : ℕ) → all_boolean (some_path_to m cites b n) ≡ true
  some true n = path n
  some false n = loose n

  paths : (task : Task) → all_boolean (path_of m cites task) ≡ true
  paths (base p i) = path i
  paths (step p k) = loose k
  paths (lemma_first f) = path 0
  paths (lemma_next f) = loose 1
  paths (implied f p) = loose 0
  paths (with_states states from_first at) = some from_first (before states)

  trues : (j count : ℕ) (f : Formula) → is_boolean f ≡ true → all_boolean (true_from m j count f) ≡ true
  trues j zero f b = refl
  trues j (suc count) f b = rw (one (variables m) j f b, trues (suc j) count f b) refl

  each : (at : List (ℕ × Formula)) → all_boolean_at at ≡ true → all_boolean (each_at m at) ≡ true
  each [] b = refl
  each ((j, f) ∷ more) b = let k = both_true _ _ b in rw (one (variables m) j f k.0, each more k.1) refl

  asked : (task : Task) → is_boolean_task task ≡ true → all_boolean (asked_of m task) ≡ true
  asked (base p i) b = last (variables m) i (negation (property_term m p)) (property p)
  asked (step p k) b =
      all-append (true_from m 0 k (property_term m p)) (placed (variables m) k (negation (property_term m p)) ∷ [])
      (trues 0 k (property_term m p) (property p)) (last (variables m) k (negation (property_term m p)) (property p))
  asked (lemma_first f) b = last (variables m) 0 (negation f) b
  asked (lemma_next f) b = rw (one (variables m) 0 f b, last (variables m) 1 (negation f) b) refl
  asked (implied f p) b = rw (one (variables m) 0 f b, last (variables m) 0 (negation (property_term m p)) (property p)) refl
  asked (with_states states from_first at) b = each at b

  conditions : (task : Task) → is_boolean_task task ≡ true → all_boolean (conditions_of m task cites) ≡ true
  conditions task b = all-append (path_of m cites task) (asked_of m task) (paths task) (asked task b)

pub no-atoms : (m : Machine) (task : Task) (cites : List Formula) → BooleanQueriesHaveNoAtoms m task cites
no-atoms m task cites h b c = record {
  none = λ f e. subst (Gets (λ (g : Form). g.atoms ≡ [])) e
      (conditions-stay _ (truth_form _) (conditions_of m task cites) (conditions m cites h c task b));
}
