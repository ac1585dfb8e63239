-- The theory step that bounds give which refute each other.
use Rattle.std.specs.Prelude.{ℕ, suc, ◌≡◌, ◌⊎◌, ◌++◌, Bool, true, false, List, [], ◌∷◌, map, take, All, Contains, Some, None, unsigned_abs}
use lib.IntN.{ℤ, pos, negsuc, ◌*ℤ◌, ◌-ℤ◌}
use lib.Signed.{◌≤ℤ◌, ◌<ℤ◌}
use Rattle.kind_num.specs.Exact.{within}
use Rattle.proof_steps.specs.declared.Literal.{Literal}
use Rattle.proof_steps.specs.declared.Literal.TheVariants.{Atom}
use Rattle.proof_steps.specs.declared.Source.{Source}
use Rattle.proof_steps.specs.declared.Source.TheVariants as s
use Rattle.proof_steps.specs.View.{Inequality, Move, theory, Sum}
use Rattle.proof_steps.specs.Meaning.{at, opposite}
use Rattle.proof_steps.specs.Rows.{Form, rows_of, entry}
use Rattle.proof_steps.specs.Bounds.{Bound, opposite_bound, bound_of_literal, split_atom}
use Rattle.proof_checker.specs.declared.rule.Rule.TheVariants as r
use Rattle.proof_checker.specs.Check.{move_fault}
use Rattle.int_simplex.specs.State.{Standing}
use Rattle.int_simplex.specs.Farkas.{limits, Refutes}
use Rattle.cnf_maker.specs.Plain.{IsPlain}
use Rattle.line_laws.specs.Lines.{Part, IsPart, AreOnRowsOf, meant, said, multipliers_of, bounds_of, coefficient_in, right_side}

-- the size of an atom's one coefficient, by which its inequality is divided
abbrev pub divisor_of : List (ℕ × ℤ) → ℤ
divisor_of [] = pos 1
divisor_of (t ∷ []) = pos (unsigned_abs t.1)
divisor_of (t ∷ u ∷ rest) = pos 1

-- first each literal's own line, divided; the literals are numbered from n on
abbrev pub own_lines : ℕ → List Part → List Sum
own_lines n [] = []
own_lines n (p ∷ rest) =
    record { parts = (pos 1, s.Literal n) ∷ []; divisor = divisor_of p.atom.terms } ∷ own_lines (suc n) rest

abbrev pub line_parts : ℕ → List Part → List (ℤ × Source)
line_parts n [] = []
line_parts n (p ∷ rest) = (p.multiplier, s.Line n) ∷ line_parts (suc n) rest

-- then their sum
abbrev pub sum_of_lines : ℕ → List Part → Sum
sum_of_lines n parts = record { parts = line_parts n parts; divisor = pos 1 }

abbrev pub denied : Part → Literal
denied p = opposite (Atom p.bound.literal p.sign)

-- some literal of the refuted bounds is false
abbrev pub conflict_step : List Part → Move
conflict_step parts = theory (map denied parts) (own_lines 1 parts ++ sum_of_lines 1 parts ∷ [])

-- the step breaks no rule of the checker, or a number of it is outside 128 bits
abbrev pub IsTakenOrPast : Form → List (List Literal) → List Part → Type 0
IsTakenOrPast g known parts =
    (move_fault g.shapes g.atoms known (conflict_step parts) ≡ None)
    ⊎ (move_fault g.shapes g.atoms known (conflict_step parts) ≡ Some r.Past)

-- multipliers 0 or more, with which the bounds sum to a whole combination of the rows, and the sum's
-- right side is below 0
pub record RefuteEachOther (g : Form) (parts : List Part) : Type 0 where
  pub are_parts : All (IsPart g) parts
  pub not_negative : All (λ (p : Part). pos 0 ≤ℤ p.multiplier) parts
  pub on_rows : AreOnRowsOf g parts
  pub absurd : limits (multipliers_of parts) (bounds_of parts) <ℤ pos 0

-- whatever clauses are known
abbrev pub RefutedBoundsGiveAStep : Type 0
RefutedBoundsGiveAStep =
    (g : Form) (known : List (List Literal)) (parts : List Part) → IsPlain g → RefuteEachOther g parts
    → IsTakenOrPast g known parts

-- the bound is what one literal of the atom that its number names means
abbrev pub IsOfLiteral : Form → Standing → Type 0
IsOfLiteral g b =
    (i : Inequality) × (sign : Bool) × IsPart g record { bound = b; atom = i; sign = sign; multiplier = pos 0 }

-- the multipliers of a refutation, each with the number of its bound's literal
abbrev pub numbered : Part → ℤ × ℕ
numbered p = (p.multiplier, p.bound.literal)

-- bounds that stand, with these multipliers and literals, refute each other, and so give a step
pub record IsStepOf (g : Form) (known : List (List Literal)) (bounds : List Standing) (multipliers : List (ℤ × ℕ))
    : Type 0 where
  pub parts : List Part
  pub stand : All (λ (p : Part). Contains bounds p.bound) parts
  pub same : map numbered parts ≡ multipliers
  pub refute : RefuteEachOther g parts
  pub taken : IsTakenOrPast g known parts

-- what a tableau over a query's rows answers of bounds of its literals is such a refutation
abbrev pub RefutationsGiveSteps : Type 0
RefutationsGiveSteps =
    (g : Form) (known : List (List Literal)) (bounds : List Standing) (multipliers : List (ℤ × ℕ)) → IsPlain g
    → All (IsOfLiteral g) bounds
    → Refutes (rows_of g) bounds multipliers → IsStepOf g known bounds multipliers

-- m times the numbers of the inequality are within 128 bits
pub record HasProducts (m : ℤ) (i : Inequality) : Type 0 where
  pub coefficients : (c : ℕ) → within (m *ℤ entry i.terms c) ≡ true
  pub bound : within (m *ℤ i.bound) ≡ true

-- the numbers that the step's lines compute are within 128 bits: what each literal means, the products
-- of the last line, and its partial sums
pub record OperationsFit (parts : List Part) : Type 0 where
  pub meanings : All (λ (p : Part). HasProducts (pos 1) (meant p.sign p.atom)) parts
  pub products : All (λ (p : Part). HasProducts p.multiplier (said p.sign p.atom)) parts
  pub sums : (k c : ℕ) → within (coefficient_in (take k parts) c) ≡ true
  pub right_sides : (k : ℕ) → within (right_side (take k parts)) ≡ true

-- then the step breaks no rule
abbrev pub FittingStepsAreTaken : Type 0
FittingStepsAreTaken =
    (g : Form) (known : List (List Literal)) (parts : List Part) → IsPlain g → RefuteEachOther g parts
    → OperationsFit parts
    → move_fault g.shapes g.atoms known (conflict_step parts) ≡ None

abbrev pub standing : ℕ → Bound → Standing
standing n b = record { column = b.column; upper = b.upper; limit = b.limit; literal = n }

-- both literals of an atom, the negative one first, with the bounds that they mean
abbrev pub both_of : ℕ → Inequality → Bound → List Part
both_of n i b =
    record { bound = standing n (opposite_bound b); atom = i; sign = false; multiplier = pos 1 }
    ∷ record { bound = standing n b; atom = i; sign = true; multiplier = pos 1 } ∷ []

-- they refute each other, so the clause of both, `a -a`, is a step
abbrev pub AtomsAreDecided : Type 0
AtomsAreDecided =
    (g : Form) (n : ℕ) (i : Inequality) (b : Bound) → at g.atoms n ≡ Some i
    → bound_of_literal g [] (Atom n true) ≡ Some b
    → RefuteEachOther g (both_of n i b)

-- the step of a split's atom `x <= c` fits where c and -c - 1 are within 128 bits
abbrev pub SplitStepsFit : Type 0
SplitStepsFit =
    (n x : ℕ) (c : ℤ) → within c ≡ true → within (negsuc 0 -ℤ c) ≡ true
    → OperationsFit (both_of n (split_atom (x, c)) record { column = x; upper = true; limit = c })
