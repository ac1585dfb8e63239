-- The products and sums of a theory step that one row's refutation gives, and where they are outside
-- 128 bits.
use Rattle.std.specs.Prelude.{ℕ, ◌≡◌, ◌≢◌, ◌⊎◌, ◌==◌, true, false, cond, List, [], ◌∷◌, map, take, All, Some, slice_get}
use lib.IntN.{ℤ, pos, ◌+ℤ◌, ◌*ℤ◌}
use lib.Signed.{◌<ℤ◌}
use Rattle.kind_num.specs.Exact.{within}
use Rattle.kind_num.specs.declared.Op.{Op}
use Rattle.kind_num.specs.declared.Op.TheVariants.{Add, Mul}
use Rattle.kind_num.specs.declared.Past.{Past}
use Rattle.proof_steps.specs.Rows.{Form, is_long, entry, rows_of, columns_of}
use Rattle.proof_steps.specs.Stopped.{IsNumberOf, IsPastStep}
use Rattle.int_simplex.specs.Farkas.{turned, limits, IsOfOneRow}
use Rattle.int_simplex.specs.Given.{AreGiven}
use Rattle.line_laws.specs.Lines.{Part, AreOnRowsOf, meant, multipliers_of, bounds_of}
use Rattle.line_laws.specs.Steps.{RefuteEachOther, HasProducts, OperationsFit, numbered}

-- the number of the bound's column in the row that refutes
abbrev pub number_of : Part → ℤ
number_of p = turned p.bound.upper p.multiplier

-- that row
abbrev pub refuting_row : List Part → List (ℕ × ℤ)
refuting_row parts = map (λ (p : Part). (p.bound.column, number_of p)) parts

-- what the atom's column has of the variable c: an atom with one variable has that variable as its
-- column, another one the column of its sum
abbrev pub factor_in : List (ℕ × ℤ) → ℕ → ℤ
factor_in [] c = pos 0
factor_in (t ∷ []) c = cond (t.0 == c) (pos 1) (pos 0)
factor_in (t ∷ u ∷ rest) c = entry (t ∷ u ∷ rest) c

-- the products whose sum is the variable's coefficient, and those whose sum is the right side
abbrev pub products_of : ℕ → List Part → List (ℤ × ℤ)
products_of c parts = map (λ (p : Part). (number_of p, factor_in p.atom.terms c)) parts

abbrev pub limit_products : List Part → List (ℤ × ℤ)
limit_products parts = map (λ (p : Part). (number_of p, p.bound.limit)) parts

abbrev pub sum_in : List (ℤ × ℤ) → ℤ
sum_in [] = pos 0
sum_in (p ∷ rest) = (p.0 *ℤ p.1) +ℤ sum_in rest

-- each product and each partial sum is within 128 bits
pub record SumFits (products : List (ℤ × ℤ)) : Type 0 where
  pub each : (k : ℕ) (p : ℤ × ℤ) → slice_get products k ≡ Some p → within (p.0 *ℤ p.1) ≡ true
  pub sums : (k : ℕ) → within (sum_in (take k products)) ≡ true

abbrev pub IsOutside : Op → ℤ → ℤ → ℤ → Past → Type 0
IsOutside op x y z past = (past ≡ record { op = op; left = x; right = y }) × (within z ≡ false)

-- a product is outside, or its sum with those before it
pub record IsSumPast (products : List (ℤ × ℤ)) (past : Past) : Type 0 where
  pub place : ℕ
  pub product : ℤ × ℤ
  pub stands : slice_get products place ≡ Some product
  pub outside : IsOutside Mul product.0 product.1 (product.0 *ℤ product.1) past
      ⊎ IsOutside Add (sum_in (take place products)) (product.0 *ℤ product.1) (sum_in (take place products) +ℤ product.0 *ℤ product.1) past

-- by the coefficients of an atom with more variables, and by the limit, a row's number may be multiplied
pub record IsAllowed (f : Form) (pairs : List (ℕ × ℤ)) (p : Part) : Type 0 where
  pub coefficients : (c : ℕ) → is_long p.atom.terms ≡ true → entry p.atom.terms c ≢ pos 0
      → IsNumberOf f pairs (entry p.atom.terms c)
  pub limit : IsNumberOf f pairs p.bound.limit

-- bounds, each times its multiplier, that one row of the form shows to leave no point
pub record AreRefutedBy (f : Form) (pairs : List (ℕ × ℤ)) (parts : List Part) : Type 0 where
  pub given : AreGiven (rows_of f) (columns_of f)
  pub on_rows : AreOnRowsOf f parts
  pub absurd : limits (multipliers_of parts) (bounds_of parts) <ℤ pos 0
  pub one_row : IsOfOneRow (rows_of f) (columns_of f) (bounds_of parts) (map numbered parts)
  pub allowed : All (IsAllowed f pairs) parts

-- then a product or a sum that is outside 128 bits is one over the refuting row, beside which the first
-- given row is kept, whose multiplier is 1
abbrev pub PastSumsArePast : Type 0
PastSumsArePast =
    (f : Form) (pairs : List (ℕ × ℤ)) (parts : List Part) (first : List (ℕ × ℤ)) (c : ℕ) (past : Past)
    → AreRefutedBy f pairs parts → slice_get (rows_of f) 0 ≡ Some first
    → IsSumPast (products_of c parts) past ⊎ IsSumPast (limit_products parts) past
    → IsPastStep (rows_of f) (columns_of f) (IsNumberOf f pairs) record { rows = refuting_row parts ∷ first ∷ []; past = past }

-- and where none is, the numbers of the step are within 128 bits
abbrev pub FittingSumsFit : Type 0
FittingSumsFit =
    (g : Form) (parts : List Part) → RefuteEachOther g parts
    → All (λ (p : Part). HasProducts (pos 1) (meant p.sign p.atom)) parts
    → ((c : ℕ) → SumFits (products_of c parts)) → SumFits (limit_products parts) → OperationsFit parts
