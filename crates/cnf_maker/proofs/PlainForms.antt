-- The walk over conditions that fit makes plain atoms alone.
use Rattle.std.specs.Prelude.{ℕ, suc, ◌≡◌, true, List, [], ◌∷◌, ◌++◌, length, Option, Some, None, slice_get, Result, Ok, Err, refl}
use Rattle.std.specs.List.{AllByRecursion}
use Rattle.std.proofs.Common.{subst}
use Rattle.std.proofs.lemmas.List.Elements.{All-from_recursion}
use Rattle.kind_num.specs.declared.Shape.{Shape}
use Rattle.kind_num.specs.declared.Shape.TheVariants as k
use Rattle.kind_num.specs.declared.Op.TheVariants.{Add, Sub}
use Rattle.kind_num.specs.declared.Past.{Past}
use Rattle.proof_steps.specs.declared.Literal.{Literal}
use Rattle.proof_steps.specs.View.{Inequality}
use Rattle.proof_steps.specs.Rows.{Form}
use Rattle.sys_terms.specs.View.{Formula, truth, flag, negation, both, same, choice, at_most, equal, Amount, constant, number, plus, minus, multiple, chosen, quotient, remainder, Question}
use Rattle.sys_terms.specs.Fits.{is_number, fits, amount_fits, all_fit_one}
use Rattle.sys_terms.proofs.Placed.{both_true}
use Rattle.cnf_maker.specs.Linear.{Linear, combined, scaled}
use Rattle.cnf_maker.specs.ClauseForm.{with_at_most, with_chosen, with_division, literal_of, linear_of, with_condition, with_conditions, truth_form}
use Rattle.cnf_maker.specs.Plain.{IsPlainAtom, AtomsArePlain}
use Rattle.cnf_maker.proofs.Plain.{PlainSum, Gets, gets-then, Over, over-more, Plain, PlainAtom, plain-atom, Step, step-trans, step-shapes, sum-over, step-at_most, combined-plain, multiple-plain, variable-plain, step-chosen, Divided, step-division}

is_a_number : (s : Option Shape) → is_number s ≡ true → s ≡ Some k.Number
is_a_number None h = absurd cc
is_a_number (Some k.Flag) h = absurd cc
is_a_number (Some k.Number) h = refl

over-then : (base old new : List Shape) → Over base old → Over old new → Over base new
over-then base old new a b x s e = b x s (a x s e)

-- a flag that is made last
gate : (f g : Form) → Step f g
    → Step f record { shapes = g.shapes ++ k.Flag ∷ []; atoms = g.atoms; clauses = g.clauses }
gate f g s = step-trans f g record { shapes = g.shapes ++ k.Flag ∷ []; atoms = g.atoms; clauses = g.clauses } s
    (step-shapes g (k.Flag ∷ []) s.1)

abbrev Lit : Form → Form × Literal → Type 0
Lit f p = Step f p.0

abbrev Lin : Form → Form × Linear → Type 0
Lin f p = Step f p.0 × PlainSum p.0.shapes p.1.terms

literal-onward : (f w : Form) (r : Result (Form × Literal) Past) → Step f w → Gets (Lit w) r → Gets (Lit f) r
literal-onward f w (Ok p) s h = step-trans f w p.0 s h
literal-onward f w (Err p) s h = tt

linear-onward : (f w : Form) (r : Result (Form × Linear) Past) → Step f w → Gets (Lin w) r → Gets (Lin f) r
linear-onward f w (Ok p) s h = (step-trans f w p.0 s h.0, h.1)
linear-onward f w (Err p) s h = tt

module _ (base : List Shape) (t : ℕ) where
  mutual
    plain-literal : (f : Form) (g : Formula) → Over base f.shapes → Plain f → fits base g ≡ true
        → Gets (Lit f) (literal_of t f g)
    plain-literal f (truth b) o n h = (λ x s e. e, n)
    plain-literal f (flag v) o n h = (λ x s e. e, n)
    plain-literal f (negation g) o n h = gets-then (Lit f) _ (literal_of t f g) _ (plain-literal f g o n h) (λ p s. s)
    plain-literal f (both g h) o n q = let k2 = both_true _ _ q in
        gets-then (Lit f) _ (literal_of t f g) _ (plain-literal f g o n k2.0)
        (λ p s. gets-then (Lit p.0) _ (literal_of t p.0 h) _
        (plain-literal p.0 h (over-then base f.shapes p.0.shapes o s.0) s.1 k2.1)
        (λ r u. gate f r.0 (step-trans f p.0 r.0 s u)))
    plain-literal f (same g h) o n q = let k2 = both_true _ _ q in
        gets-then (Lit f) _ (literal_of t f g) _ (plain-literal f g o n k2.0)
        (λ p s. gets-then (Lit p.0) _ (literal_of t p.0 h) _
        (plain-literal p.0 h (over-then base f.shapes p.0.shapes o s.0) s.1 k2.1)
        (λ r u. gate f r.0 (step-trans f p.0 r.0 s u)))
    plain-literal f (choice c g h) o n q = let k2 = both_true _ _ q in let k3 = both_true _ _ k2.1 in
        gets-then (Lit f) _ (literal_of t f c) _ (plain-literal f c o n k2.0)
        (λ p s. let op = over-then base f.shapes p.0.shapes o s.0 in
        gets-then (Lit p.0) _ (literal_of t p.0 g) _ (plain-literal p.0 g op s.1 k3.0)
        (λ r u. gets-then (Lit r.0) _ (literal_of t r.0 h) _
        (plain-literal r.0 h (over-then base p.0.shapes r.0.shapes op u.0) u.1 k3.1)
        (λ w v. gate f w.0 (step-trans f r.0 w.0 (step-trans f p.0 r.0 s u) v))))
    plain-literal f (at_most a b) o n q = let k2 = both_true _ _ q in
        gets-then (Lin f) _ (linear_of t f a) _ (plain-linear f a o n k2.0)
        (λ p s. gets-then (Lin p.0) _ (linear_of t p.0 b) _
        (plain-linear p.0 b (over-then base f.shapes p.0.shapes o s.0.0) s.0.1 k2.1)
        (λ r u. literal-onward f r.0 (with_at_most t r.0 p.1 r.1) (step-trans f p.0 r.0 s.0 u.0)
        (step-at_most t r.0 p.1 r.1 u.0.1 (sum-over p.0.shapes r.0.shapes p.1.terms u.0.0 s.1) u.1)))
    plain-literal f (equal a b) o n q = let k2 = both_true _ _ q in
        gets-then (Lin f) _ (linear_of t f a) _ (plain-linear f a o n k2.0)
        (λ p s. gets-then (Lin p.0) _ (linear_of t p.0 b) _
        (plain-linear p.0 b (over-then base f.shapes p.0.shapes o s.0.0) s.0.1 k2.1)
        (λ r u. let a0 = sum-over p.0.shapes r.0.shapes p.1.terms u.0.0 s.1 in
        gets-then (Lit r.0) _ (with_at_most t r.0 p.1 r.1) _ (step-at_most t r.0 p.1 r.1 u.0.1 a0 u.1)
        (λ w v. gets-then (Lit w.0) _ (with_at_most t w.0 r.1 p.1) _
        (step-at_most t w.0 r.1 p.1 v.1 (sum-over r.0.shapes w.0.shapes r.1.terms v.0 u.1)
        (sum-over r.0.shapes w.0.shapes p.1.terms v.0 a0))
        (λ y m. gate f y.0 (step-trans f w.0 y.0 (step-trans f r.0 w.0 (step-trans f p.0 r.0 s.0 u.0) v) m)))))

    plain-linear : (f : Form) (a : Amount) → Over base f.shapes → Plain f → amount_fits base a ≡ true
        → Gets (Lin f) (linear_of t f a)
    plain-linear f (constant z) o n h = ((λ x s e. e, n), (tt, refl))
    plain-linear f (number v) o n h = (
      (λ x s e. e, n),
      variable-plain f.shapes v.number
          (o v.number k.Number (is_a_number (slice_get base v.number) h)),
    )
    plain-linear f (plus a b) o n q = let k2 = both_true _ _ q in
        gets-then (Lin f) _ (linear_of t f a) _ (plain-linear f a o n k2.0)
        (λ p s. gets-then (Lin p.0) _ (linear_of t p.0 b) _
        (plain-linear p.0 b (over-then base f.shapes p.0.shapes o s.0.0) s.0.1 k2.1)
        (λ r u. gets-then (λ (c : Linear). PlainSum r.0.shapes c.terms) _ (combined Add p.1 r.1) _
        (combined-plain Add r.0.shapes p.1 r.1 (sum-over p.0.shapes r.0.shapes p.1.terms u.0.0 s.1) u.1)
        (λ c y. (step-trans f p.0 r.0 s.0 u.0, y))))
    plain-linear f (minus a b) o n q = let k2 = both_true _ _ q in
        gets-then (Lin f) _ (linear_of t f a) _ (plain-linear f a o n k2.0)
        (λ p s. gets-then (Lin p.0) _ (linear_of t p.0 b) _
        (plain-linear p.0 b (over-then base f.shapes p.0.shapes o s.0.0) s.0.1 k2.1)
        (λ r u. gets-then (λ (c : Linear). PlainSum r.0.shapes c.terms) _ (combined Sub p.1 r.1) _
        (combined-plain Sub r.0.shapes p.1 r.1 (sum-over p.0.shapes r.0.shapes p.1.terms u.0.0 s.1) u.1)
        (λ c y. (step-trans f p.0 r.0 s.0 u.0, y))))
    plain-linear f (multiple z a) o n h =
        gets-then (Lin f) _ (linear_of t f a) _ (plain-linear f a o n h)
        (λ p s. gets-then (λ (c : Linear). PlainSum p.0.shapes c.terms) _ (scaled z p.1) _
        (multiple-plain p.0.shapes z p.1 s.1) (λ c y. (s.0, y)))
    plain-linear f (chosen c a b) o n q = let k2 = both_true _ _ q in let k3 = both_true _ _ k2.1 in
        gets-then (Lit f) _ (literal_of t f c) _ (plain-literal f c o n k2.0)
        (λ p s. let op = over-then base f.shapes p.0.shapes o s.0 in
        gets-then (Lin p.0) _ (linear_of t p.0 a) _ (plain-linear p.0 a op s.1 k3.0)
        (λ r u. gets-then (Lin r.0) _ (linear_of t r.0 b) _
        (plain-linear r.0 b (over-then base p.0.shapes r.0.shapes op u.0.0) u.0.1 k3.1)
        (λ w v. let s2 = step-trans f r.0 w.0 (step-trans f p.0 r.0 s u.0) v.0 in
        linear-onward f w.0 (with_chosen t w.0 p.1 r.1 w.1) s2
        (step-chosen t w.0 p.1 r.1 w.1 v.0.1 (sum-over r.0.shapes w.0.shapes r.1.terms v.0.0 u.1) v.1))))
    plain-linear f (quotient a d) o n q = let k2 = both_true _ _ q in
        gets-then (Lin f) _ (linear_of t f a) _ (plain-linear f a o n k2.0)
        (λ p s. gets-then (Divided p.0) _ (with_division t p.0 p.1 d) _ (step-division t p.0 p.1 d s.0.1 s.1 k2.1)
        (λ g y. (step-trans f p.0 g s.0 y.step, variable-plain g.shapes (length p.0.shapes) y.quotient)))
    plain-linear f (remainder a d) o n q = let k2 = both_true _ _ q in
        gets-then (Lin f) _ (linear_of t f a) _ (plain-linear f a o n k2.0)
        (λ p s. gets-then (Divided p.0) _ (with_division t p.0 p.1 d) _ (step-division t p.0 p.1 d s.0.1 s.1 k2.1)
        (λ g y. (step-trans f p.0 g s.0 y.step, variable-plain g.shapes (suc (length p.0.shapes)) y.remainder)))

  plain-conditions : (f : Form) (gs : List Formula) → Over base f.shapes → Plain f → all_fit_one base gs ≡ true
      → Gets Plain (with_conditions t f gs)
  plain-conditions f [] o n h = n
  plain-conditions f (g ∷ gs) o n h = let k2 = both_true _ _ h in let k3 = both_true _ _ k2.0 in
      gets-then (Step f) _ (with_condition t f g) _
      (gets-then (Lit f) _ (literal_of t f g) _ (plain-literal f g o n k3.0) (λ p s. s))
      (λ m s. plain-conditions m gs (over-then base f.shapes m.shapes o s.0) s.1 k2.1)

each-plain : (shapes : List Shape) (atoms : List Inequality) → AllByRecursion (PlainAtom shapes) atoms
    → AllByRecursion (IsPlainAtom shapes) atoms
each-plain shapes [] h = tt
each-plain shapes (i ∷ atoms) h = (plain-atom shapes i h.0, each-plain shapes atoms h.1)

pub atoms-are-plain : (q : Question) → AtomsArePlain q
atoms-are-plain q h f e =
    let n : Plain f =
    subst (Gets Plain) e
    (plain-conditions q.shapes (length q.shapes) (truth_form q.shapes) q.conditions
    (over-more q.shapes (k.Flag ∷ [])) tt h) in
    All-from_recursion (IsPlainAtom f.shapes) f.atoms (each-plain f.shapes f.atoms n)
