-- The step of a split is taken.
use Rattle.std.specs.Prelude.{ℕ, suc, ◌≡◌, ◌+◌, true, cond, List, [], ◌∷◌, ◌++◌, length, Option, Some, None, slice_get, refl}
use Rattle.std.proofs.Common.{◌∙◌, ap, arith}
use Rattle.std.proofs.lemmas.Int.{ints}
use Rattle.std.proofs.lemmas.List.{append-nil}
use Rattle.std.proofs.lemmas.List.Elements.{All-append, All-from_recursion}
use lib.IntN.{ℤ, pos, negsuc, ◌-ℤ◌}
use Rattle.kind_num.specs.Exact.{within}
use Rattle.kind_num.specs.declared.Shape.{Shape}
use Rattle.kind_num.specs.declared.Shape.TheVariants.{Number}
use Rattle.proof_steps.specs.declared.Literal.{Literal}
use Rattle.proof_steps.specs.declared.Literal.TheVariants.{Atom}
use Rattle.proof_steps.specs.View.{Inequality}
use Rattle.proof_steps.specs.Rows.{Form, is_long}
use Rattle.proof_steps.specs.Bounds.{Bound, bound_by, bound_if, bounds_from, bound_of_literal, split_atom}
use Rattle.proof_checker.specs.Check.{move_fault}
use Rattle.proof_checker.proofs.Quotients.{quotient_one}
use Rattle.cnf_maker.specs.Plain.{IsPlain, IsPlainAtom, IsTermOf}
use Rattle.line_laws.specs.Steps.{AtomsAreDecided, FittingStepsAreTaken, SplitStepsFit}
use Rattle.smt_solver.specs.Growing.{grown, split_parts, split_move}
use Rattle.smt_solver.proofs.Turns.{one}

last-atom : (atoms : List Inequality) (i : Inequality) → slice_get (atoms ++ i ∷ []) (length atoms) ≡ Some i
last-atom [] i = refl
last-atom (j ∷ atoms) i = last-atom atoms i

last-bound : (m : ℕ) (atoms : List Inequality) (x : ℕ) (c : ℤ)
    → slice_get (bounds_from m (atoms ++ split_atom (x, c) ∷ [])) (length atoms) ≡ Some (bound_by x (pos 1) c)
last-bound m [] x c = refl
last-bound m (i ∷ atoms) x c = last-bound (cond (is_long i.terms) (m + 1) m) atoms x c

pub split-plain : (shapes : List Shape) (x : ℕ) (c : ℤ) → slice_get shapes x ≡ Some Number → IsPlainAtom shapes (split_atom (x, c))
split-plain shapes x c h = record {
  terms = All-from_recursion (IsTermOf shapes) ((x, pos 1) ∷ [])
      (record { number = h; not_zero = λ e. absurd (omega (arith, ints)) }, tt);
  in_order = λ k l. absurd (omega arith);
  some_term = λ e. absurd cc;
}

pub grown-plain : (f : Form) (x : ℕ) (c : ℤ) → IsPlain f → slice_get f.shapes x ≡ Some Number
    → IsPlain (grown f (split_atom (x, c) ∷ []))
grown-plain f x c p h = All-append (IsPlainAtom f.shapes) f.atoms (split_atom (x, c) ∷ []) p
    (one (IsPlainAtom f.shapes) (split_atom (x, c)) (split-plain f.shapes x c h))

module _ (decided : AtomsAreDecided) (fitting : FittingStepsAreTaken) (fit : SplitStepsFit) (f : Form) (x : ℕ) (c : ℤ)
    (plain : IsPlain f) (number : slice_get f.shapes x ≡ Some Number) (h : within c ≡ true)
    (o : within (negsuc 0 -ℤ c) ≡ true) where
  abbrev form : Form
  form = grown f (split_atom (x, c) ∷ [])

  limit : bound_by x (pos 1) c ≡ Some record { column = x; upper = true; limit = c }
  limit = ap (λ z. a_limit z) (quotient_one c (pos 1) refl) where
    a_limit : ℤ → Option Bound
    a_limit z = Some record { column = x; upper = true; limit = z }

  means : bound_of_literal form [] (Atom (suc (length f.atoms)) true) ≡ Some record { column = x; upper = true; limit = c }
  means = ap (bound_if true)
      (ap (λ (atoms : List Inequality). slice_get (bounds_from (length f.shapes) atoms) (length f.atoms))
      (append-nil (f.atoms ++ split_atom (x, c) ∷ []))
      ∙ last-bound (length f.shapes) f.atoms x c ∙ ap (λ b. Some b) limit)

  pub split-taken : (known : List (List Literal))
      → move_fault f.shapes (f.atoms ++ split_atom (x, c) ∷ []) known (split_move (suc (length f.atoms)) x c) ≡ None
  split-taken known = fitting form known (split_parts (suc (length f.atoms)) x c)
      (grown-plain f x c plain number)
      (decided form (suc (length f.atoms)) (split_atom (x, c)) record { column = x; upper = true; limit = c }
      (last-atom f.atoms (split_atom (x, c))) means)
      (fit (suc (length f.atoms)) x c h o)
