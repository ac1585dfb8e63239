-- How bounds that refute each other become a line over the literals that they stand for.
use Rattle.std.specs.Prelude.{ℕ, zero, suc, ◌≡◌, ◌↔◌, Bool, true, false, List, [], ◌∷◌, ◌<◌, length, map, All, Some}
use Rattle.std.specs.Int.{int_div_euclid}
use lib.IntN.{ℤ, pos, negsuc, ◌+ℤ◌, ◌*ℤ◌}
use lib.Signed.{◌≤ℤ◌}
use Rattle.proof_steps.specs.declared.Literal.TheVariants.{Atom}
use Rattle.proof_steps.specs.View.{Inequality}
use Rattle.proof_steps.specs.Meaning.{Values, at, opposite_inequality, sum_of, literal_true}
use Rattle.proof_steps.specs.Rows.{Form, rows_of, entry, combined}
use Rattle.proof_steps.specs.Bounds.{Bound, bound_of_literal}
use Rattle.int_simplex.specs.State.{Standing}
use Rattle.int_simplex.specs.Farkas.{weight, limits}
use Rattle.cnf_maker.specs.Plain.{IsPlain}

-- `a*x <= b` divided by the size of a, as a line divides
abbrev pub divided_by : ℕ → ℤ → ℤ → Inequality
divided_by x (pos zero) b = record { terms = []; bound = b }
divided_by x (pos (suc d)) b = record { terms = (x, pos 1) ∷ []; bound = int_div_euclid b (pos (suc d)) }
divided_by x (negsuc d) b = record { terms = (x, negsuc 0) ∷ []; bound = int_div_euclid b (pos (suc d)) }

-- with more than one variable it stays
abbrev pub reduced_sum : List (ℕ × ℤ) → ℤ → Inequality
reduced_sum [] b = record { terms = []; bound = b }
reduced_sum (t ∷ []) b = divided_by t.0 t.1 b
reduced_sum (t ∷ u ∷ rest) b = record { terms = t ∷ u ∷ rest; bound = b }

abbrev pub reduced : Inequality → Inequality
reduced i = reduced_sum i.terms i.bound

-- what a literal of the atom means
abbrev pub meant : Bool → Inequality → Inequality
meant true i = i
meant false i = opposite_inequality i

-- and divided
abbrev pub said : Bool → Inequality → Inequality
said sign i = reduced (meant sign i)

-- a bound that stands, with the atom that its literal names, the literal's sign and a multiplier
pub record Part : Type 0 where
  pub bound : Standing
  pub atom : Inequality
  pub sign : Bool
  pub multiplier : ℤ

pub record IsPart (g : Form) (p : Part) : Type 0 where
  pub named : at g.atoms p.bound.literal ≡ Some p.atom
  pub means : bound_of_literal g [] (Atom p.bound.literal p.sign)
      ≡ Some record { column = p.bound.column; upper = p.bound.upper; limit = p.bound.limit }

abbrev pub multipliers_of : List Part → List ℤ
multipliers_of parts = map (λ (p : Part). p.multiplier) parts

abbrev pub bounds_of : List Part → List Standing
bounds_of parts = map (λ (p : Part). p.bound) parts

-- the variable's coefficient in the sum of what the literals mean, times their multipliers
abbrev pub coefficient_in : List Part → ℕ → ℤ
coefficient_in [] c = pos 0
coefficient_in (p ∷ rest) c = (p.multiplier *ℤ entry (said p.sign p.atom).terms c) +ℤ coefficient_in rest c

-- and the right side of that sum
abbrev pub right_side : List Part → ℤ
right_side [] = pos 0
right_side (p ∷ rest) = (p.multiplier *ℤ (said p.sign p.atom).bound) +ℤ right_side rest

-- the variables are gone from that sum, and its right side is that of the bounds' sum
pub record SumsToNothing (parts : List Part) : Type 0 where
  pub left : (c : ℕ) → coefficient_in parts c ≡ pos 0
  pub right : right_side parts ≡ limits (multipliers_of parts) (bounds_of parts)

-- the bounds, each times its multiplier, sum to a whole combination of the rows
abbrev pub AreOnRowsOf : Form → List Part → Type 0
AreOnRowsOf g parts =
    (rows : List ℤ) × ((c : ℕ) → weight (multipliers_of parts) (bounds_of parts) c ≡ combined rows (rows_of g) c)

-- then what their literals mean sums to nothing: the rows' own columns drop out, no multiplier is
-- lost, and the rows' multipliers need not be known
abbrev pub RefutedBoundsSumToNothing : Type 0
RefutedBoundsSumToNothing =
    (g : Form) (parts : List Part) → IsPlain g → All (IsPart g) parts → AreOnRowsOf g parts → SumsToNothing parts

abbrev pub IsVariable : Form → ℕ → Type 0
IsVariable g x = x < length g.shapes

-- bounds and rows sum to d times the terms
abbrev pub SumTo : Form → List Part → ℤ → List (ℕ × ℤ) → Type 0
SumTo g parts d terms =
    (rows : List ℤ)
    × ((c : ℕ) → weight (multipliers_of parts) (bounds_of parts) c +ℤ combined rows (rows_of g) c ≡ d *ℤ entry terms c)

-- a cut's line: where they sum to the divisor times the cut's atom, so does what the literals mean
abbrev pub CutLinesSumToTheirAtom : Type 0
CutLinesSumToTheirAtom =
    (g : Form) (parts : List Part) (d : ℤ) (terms : List (ℕ × ℤ)) → IsPlain g → All (IsPart g) parts
    → All (λ (t : ℕ × ℤ). IsVariable g t.0) terms
    → SumTo g parts d terms
    → (c : ℕ) → coefficient_in parts c ≡ d *ℤ entry terms c

-- whole values of the columns, those of the sums too, under which each row is 0
abbrev pub AreOnRows : Form → (ℕ → ℤ) → Type 0
AreOnRows g v = All (λ row. sum_of v row ≡ pos 0) (rows_of g)

abbrev pub Inside : Bool → ℤ → ℤ → Type 0
Inside true z limit = z ≤ℤ limit
Inside false z limit = limit ≤ℤ z

abbrev pub IsInside : (ℕ → ℤ) → Bound → Type 0
IsInside v b = Inside b.upper (v b.column) b.limit

-- then a literal is true exactly where its bound is met
abbrev pub BoundsSayWhatLiteralsSay : Type 0
BoundsSayWhatLiteralsSay =
    (g : Form) (v : Values) (n : ℕ) (sign : Bool) (b : Bound) → AreOnRows g v.number
    → bound_of_literal g [] (Atom n sign) ≡ Some b
    → (literal_true g.atoms v (Atom n sign) ≡ true) ↔ IsInside v.number b
