-- The clause form of a query over flags alone, whose terms compare no numbers, has no numbers.
use Rattle.std.specs.Prelude.{ℕ, zero, suc, ◌≡◌, ◌≢◌, Bool, true, false, List, [], ◌∷◌, ◌++◌, map, Option, Some, None, slice_get, Result, Ok, Err, refl}
use Rattle.std.specs.List.{AllByRecursion}
use Rattle.std.proofs.Common.{subst, sym, ap, ◌∙◌}
use Rattle.kind_num.specs.declared.Past.{Past}
use Rattle.kind_num.specs.declared.Shape.{Shape}
use Rattle.kind_num.specs.declared.Shape.TheVariants as k
use Rattle.proof_steps.specs.declared.Literal.{Literal}
use Rattle.proof_steps.specs.Rows.{Form}
use Rattle.lus_meaning.proofs.Lists.{all_from, both_parts}
use Rattle.lus_meaning.proofs.Now.{left_part, right_part}
use Rattle.sys_terms.specs.View.{Formula, truth, flag, negation, both, same, choice, at_most, equal, Machine, Task, base, step, lemma_first, lemma_next, implied, with_states, Question}
use Rattle.sys_terms.specs.Boolean.{is_boolean}
use Rattle.sys_terms.specs.Queries.{placed, variables, all_placed, at_state, step_after, steps_from, loose_path_to, path_to, some_path_to, or_true, property_term, true_from, each_at, before, path_of, asked_of, conditions_of, last_of, shapes_of, query_of}
use Rattle.sys_terms.proofs.Placed.{both_true}
use Rattle.sys_terms.specs.Evaluated.{and_then}
use Rattle.cnf_maker.specs.ClauseForm.{literal_of, with_condition, with_conditions, truth_form, clause_form}
use Rattle.smt_solver.specs.Boolean.{all_boolean, is_boolean_machine, all_boolean_at, is_boolean_task}
use Rattle.term_laws.specs.Laws.{terms_of}
use Rattle.boolean_laws.specs.Laws.{IsOfFlags}
use Rattle.boolean_laws.specs.Complete.{HasFormWithoutNumbers, QueriesHaveNoNumbers}
use Rattle.boolean_laws.proofs.Parts.{Good, AllGood}

boolean_good : (f : Formula) → is_boolean f ≡ true → Good f
boolean_good (truth b) h = tt
boolean_good (flag v) h = tt
boolean_good (negation f) h = boolean_good f h
boolean_good (both f g) h = let q = both_true _ _ h in (boolean_good f q.0, boolean_good g q.1)
boolean_good (same f g) h = let q = both_true _ _ h in (boolean_good f q.0, boolean_good g q.1)
boolean_good (choice c f g) h =
    let q = both_true _ _ h in let r = both_true _ _ q.1 in (boolean_good c q.0, boolean_good f r.0, boolean_good g r.1)
boolean_good (at_most a b) h = absurd cc
boolean_good (equal a b) h = absurd cc

pub all_good : (fs : List Formula) → all_boolean fs ≡ true → AllGood fs
all_good [] h = tt
all_good (f ∷ fs) h = let q = both_true _ _ h in (boolean_good f q.0, all_good fs q.1)

-- ---- the conditions of a query

placed_good : (n j : ℕ) (f : Formula) → Good f → Good (placed n j f)
placed_good n j (truth b) h = tt
placed_good n j (flag v) h = tt
placed_good n j (negation f) h = placed_good n j f h
placed_good n j (both f g) h = (placed_good n j f h.0, placed_good n j g h.1)
placed_good n j (same f g) h = (placed_good n j f h.0, placed_good n j g h.1)
placed_good n j (choice c f g) h = (placed_good n j c h.0, placed_good n j f h.1, placed_good n j g h.2)
placed_good n j (at_most a b) h = absurd h
placed_good n j (equal a b) h = absurd h

all_placed_good : (n j : ℕ) (fs : List Formula) → AllGood fs → AllGood (map (placed n j) fs)
all_placed_good n j [] h = tt
all_placed_good n j (f ∷ fs) h = (placed_good n j f h.0, all_placed_good n j fs h.1)

named_good : (fs : List Formula) (p : ℕ) → AllGood fs → Good (or_true (slice_get fs p))
named_good [] p h = tt
named_good (f ∷ fs) zero h = h.0
named_good (f ∷ fs) (suc p) h = named_good fs p h.1

module _ (m : Machine) (cites : List Formula) (h : AllGood (terms_of m)) (c : AllGood cites) where
  behind_first : AllGood (m.here ++ (m.next ++ (m.legal ++ m.properties)))
  behind_first = right_part Good m.first _ h

  behind_here : AllGood (m.next ++ (m.legal ++ m.properties))
  behind_here = right_part Good m.here _ behind_first

  behind_next : AllGood (m.legal ++ m.properties)
  behind_next = right_part Good m.next _ behind_here

  property_good : (p : ℕ) → Good (property_term m p)
  property_good p = named_good m.properties p (right_part Good m.legal _ behind_next)

  state_good : (j : ℕ) → AllGood (at_state m cites j)
  state_good j =
      both_parts Good (all_placed m j m.here ++ all_placed m j m.legal) (all_placed m j cites)
      (both_parts Good (all_placed m j m.here) (all_placed m j m.legal)
      (all_placed_good (variables m) j m.here (left_part Good m.here _ behind_first))
      (all_placed_good (variables m) j m.legal (left_part Good m.legal _ behind_next)))
      (all_placed_good (variables m) j cites c)

  after_good : (j : ℕ) → AllGood (step_after m cites j)
  unfolding step_after
  after_good j =
      both_parts Good (all_placed m j m.next) (at_state m cites (suc j))
      (all_placed_good (variables m) j m.next (left_part Good m.next _ behind_here)) (state_good (suc j))

  steps_good : (j n : ℕ) → AllGood (steps_from m cites j n)
  steps_good j zero = tt
  steps_good j (suc n) = both_parts Good (step_after m cites j) (steps_from m cites (suc j) n) (after_good j) (steps_good (suc j) n)

  loose_good : (n : ℕ) → AllGood (loose_path_to m cites n)
  loose_good n = both_parts Good (at_state m cites 0) (steps_from m cites 0 n) (state_good 0) (steps_good 0 n)

  path_good : (n : ℕ) → AllGood (path_to m cites n)
  path_good n =
      both_parts Good (all_placed m 0 m.first) (loose_path_to m cites n)
      (all_placed_good (variables m) 0 m.first (left_part Good m.first _ h)) (loose_good n)

  some_path_good : (b : Bool) (n : ℕ) → AllGood (some_path_to m cites b n)
  some_path_good true n = path_good n
  some_path_good false n = loose_good n

  paths_good : (task : Task) → AllGood (path_of m cites task)
  paths_good (base p i) = path_good i
  paths_good (step p n) = loose_good n
  paths_good (lemma_first f) = path_good 0
  paths_good (lemma_next f) = loose_good 1
  paths_good (implied f p) = loose_good 0
  paths_good (with_states states from_first at) = some_path_good from_first (before states)

  trues_good : (j count : ℕ) (f : Formula) → Good f → AllGood (true_from m j count f)
  trues_good j zero f b = tt
  trues_good j (suc count) f b = (placed_good (variables m) j f b, trues_good (suc j) count f b)

  each_good : (at : List (ℕ × Formula)) → all_boolean_at at ≡ true → AllGood (each_at m at)
  each_good [] b = tt
  each_good ((j, f) ∷ more) b =
      let q = both_true _ _ b in (placed_good (variables m) j f (boolean_good f q.0), each_good more q.1)

  asked_good : (task : Task) → is_boolean_task task ≡ true → AllGood (asked_of m task)
  asked_good (base p i) b = (placed_good (variables m) i (property_term m p) (property_good p), tt)
  asked_good (step p n) b =
      both_parts Good (true_from m 0 n (property_term m p)) (placed (variables m) n (negation (property_term m p)) ∷ [])
      (trues_good 0 n (property_term m p) (property_good p)) (placed_good (variables m) n (property_term m p) (property_good p), tt)
  asked_good (lemma_first f) b = (placed_good (variables m) 0 f (boolean_good f b), tt)
  asked_good (lemma_next f) b =
      (placed_good (variables m) 0 f (boolean_good f b), (placed_good (variables m) 1 f (boolean_good f b), tt))
  asked_good (implied f p) b =
      (placed_good (variables m) 0 f (boolean_good f b), (placed_good (variables m) 0 (property_term m p) (property_good p), tt))
  asked_good (with_states states from_first at) b = each_good at b

  conditions_good : (task : Task) → is_boolean_task task ≡ true → AllGood (conditions_of m task cites)
  conditions_good task b = both_parts Good (path_of m cites task) (asked_of m task) (paths_good task) (asked_good task b)

-- ---- the clause form

abbrev AreFlags : List Shape → Type 0
AreFlags hs = AllByRecursion (λ s. s ≡ k.Flag) hs

abbrev OfFlags : Form → Type 0
OfFlags f = AreFlags f.shapes

-- a new flag
one_more : (f : Form) → OfFlags f → AreFlags (f.shapes ++ k.Flag ∷ [])
one_more f h = both_parts (λ s. s ≡ k.Flag) f.shapes (k.Flag ∷ []) h (refl, tt)

-- a result that is there, and of which this is so
abbrev Has : {X : Type 0} → (X → Type 0) → Result X Past → Type 0
Has P (Ok x) = P x
Has P (Err p) = ⊥

has_then : {X Y : Type 0} (P : X → Type 0) (Q : Y → Type 0) (r : Result X Past) (h : X → Result Y Past) → Has P r →
    ((x : X) → P x → Has Q (h x)) → Has Q (and_then r h)
has_then P Q (Ok x) h f g = g x f
has_then P Q (Err p) h f g = absurd f

abbrev OfFlagsToo : Form × Literal → Type 0
OfFlagsToo p = OfFlags p.0

literal_of_flags : (t : ℕ) (f : Form) (g : Formula) → Good g → OfFlags f → Has OfFlagsToo (literal_of t f g)
literal_of_flags t f (truth b) h o = o
literal_of_flags t f (flag v) h o = o
literal_of_flags t f (negation g) h o = has_then OfFlagsToo OfFlagsToo (literal_of t f g) _ (literal_of_flags t f g h o) (λ p s. s)
literal_of_flags t f (both g h) q o =
    has_then OfFlagsToo OfFlagsToo (literal_of t f g) _ (literal_of_flags t f g q.0 o)
    (λ p s. has_then OfFlagsToo OfFlagsToo (literal_of t p.0 h) _ (literal_of_flags t p.0 h q.1 s) (λ u v. one_more u.0 v))
literal_of_flags t f (same g h) q o =
    has_then OfFlagsToo OfFlagsToo (literal_of t f g) _ (literal_of_flags t f g q.0 o)
    (λ p s. has_then OfFlagsToo OfFlagsToo (literal_of t p.0 h) _ (literal_of_flags t p.0 h q.1 s) (λ u v. one_more u.0 v))
literal_of_flags t f (choice c g h) q o =
    has_then OfFlagsToo OfFlagsToo (literal_of t f c) _ (literal_of_flags t f c q.0 o)
    (λ p s. has_then OfFlagsToo OfFlagsToo (literal_of t p.0 g) _ (literal_of_flags t p.0 g q.1 s)
    (λ u v. has_then OfFlagsToo OfFlagsToo (literal_of t u.0 h) _ (literal_of_flags t u.0 h q.2 v) (λ w x. one_more w.0 x)))
literal_of_flags t f (at_most a b) h o = absurd h
literal_of_flags t f (equal a b) h o = absurd h

conditions_of_flags : (t : ℕ) (f : Form) (gs : List Formula) → AllGood gs → OfFlags f → Has OfFlags (with_conditions t f gs)
conditions_of_flags t f [] h o = o
conditions_of_flags t f (g ∷ gs) h o =
    has_then OfFlags OfFlags (with_condition t f g) _
    (has_then OfFlagsToo OfFlags (literal_of t f g) _ (literal_of_flags t f g h.0 o) (λ p s. s))
    (λ m s. conditions_of_flags t m gs h.1 s)

shapes_of_flags : (hs : List Shape) (count : ℕ) → AreFlags hs → AreFlags (shapes_of hs count)
shapes_of_flags hs zero a = tt
shapes_of_flags hs (suc count) a = both_parts (λ s. s ≡ k.Flag) hs (shapes_of hs count) a (shapes_of_flags hs count a)

abbrev is_number : Option Shape → Bool
is_number None = false
is_number (Some k.Flag) = false
is_number (Some k.Number) = true

pub flag_there : (hs : List Shape) → AreFlags hs → (x : ℕ) → slice_get hs x ≢ Some k.Number
flag_there [] a x e = absurd cc
flag_there (h ∷ hs) a zero e = no_flag (sym (ap (λ s. Some s) a.0) ∙ e)
  where
    no_flag : Some k.Flag ≢ Some k.Number
    no_flag e = absurd (subst (λ b. is_true b) (sym (ap is_number e)) tt)
      where
        is_true : Bool → Type 0
        is_true true = Unit {0}
        is_true false = ⊥
flag_there (h ∷ hs) a (suc x) e = flag_there hs a.1 x e

made : (q : Question) (r : Result Form Past) → clause_form q ≡ r → Has OfFlags r → HasFormWithoutNumbers q
made q (Ok f) e h = record { form = f; is_form = e; numbers = flag_there f.shapes h }
made q (Err p) e h = absurd h

pub no_numbers : QueriesHaveNoNumbers
no_numbers m task cites o b c =
    let q : Question = query_of m task cites in
    let g : AllGood (conditions_of m task cites) = conditions_good m cites
    (all_from (λ f. is_boolean f ≡ true) Good boolean_good (terms_of m) o.terms) (all_good cites c) task b in
    made q (clause_form q) refl (conditions_of_flags _ (truth_form q.shapes) (conditions_of m task cites) g
    (both_parts (λ s. s ≡ k.Flag) q.shapes (k.Flag ∷ []) (shapes_of_flags m.shapes (suc (last_of task)) o.variables) (refl, tt)))

-- ---- of the whole system

all_booleans : (fs : List Formula) → AllByRecursion (λ f. is_boolean f ≡ true) fs → all_boolean fs ≡ true
all_booleans [] a = refl
all_booleans (f ∷ fs) a = rw (a.0, all_booleans fs a.1) refl

pub boolean_machine : (m : Machine) → IsOfFlags m → is_boolean_machine m ≡ true
boolean_machine m o =
    let P : Formula → Type 0 = λ f. is_boolean f ≡ true in
    let a = right_part P m.first _ o.terms in
    let b = right_part P m.here _ a in
    let c = right_part P m.next _ b in
    rw (
      all_booleans m.first (left_part P m.first _ o.terms),
      all_booleans m.here (left_part P m.here _ a),
      all_booleans m.next (left_part P m.next _ b),
      all_booleans m.legal (left_part P m.legal _ c),
      all_booleans m.properties (right_part P m.legal _ c),
    ) refl
