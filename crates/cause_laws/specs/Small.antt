-- Queries with small numbers.
use Rattle.std.specs.Prelude.{ℕ, ◌≡◌, ◌<◌, ◌≤◌, ◌^◌, List, All, Some, length, slice_get, unsigned_abs}
use lib.IntN.{ℤ}
use Rattle.kind_num.specs.declared.Shape.TheVariants.{Number}
use Rattle.proof_steps.specs.View.{Inequality}
use Rattle.proof_steps.specs.Rows.{Form, IsBasis, IsRow, combined, rows_of, columns_of}
use Rattle.proof_steps.specs.Bounds.{HasRange}
use Rattle.proof_steps.specs.Stopped.{IsCoefficient, IsLimit}

-- below 2^40 in size
abbrev pub IsSmall : ℤ → Type 0
IsSmall z = unsigned_abs z < 2 ^ 40

-- the query's atoms are over its variables
abbrev pub HasItsVariables : Form → Type 0
HasItsVariables f = All (λ (i : Inequality). All (λ (t : ℕ × ℤ). t.0 < length f.shapes) i.terms) f.atoms

-- clauses of one literal give each number of the query the range from low to high
abbrev pub EachHasRange : Form → (ℕ → ℤ) → (ℕ → ℤ) → Type 0
EachHasRange f low high = (x : ℕ) → slice_get f.shapes x ≡ Some Number → HasRange f x (low x) (high x)

-- few columns, and small numbers: the multipliers and entries of each row of a column in a basis, the atoms'
-- coefficients, and the bounds of the query's literals, among which are the ends of its ranges
pub record HasSmallNumbers (f : Form) : Type 0 where
  pub multipliers : (basis : List ℕ) (x : ℕ) (ms : List ℤ)
      → IsBasis (rows_of f) (columns_of f) basis → IsRow (rows_of f) basis x ms → All IsSmall ms
  pub entries : (basis : List ℕ) (x : ℕ) (ms : List ℤ)
      → IsBasis (rows_of f) (columns_of f) basis → IsRow (rows_of f) basis x ms
      → (c : ℕ) → IsSmall (combined ms (rows_of f) c)
  pub coefficients : (z : ℤ) → IsCoefficient f z → IsSmall z
  pub limits : (z : ℤ) → IsLimit f z → IsSmall z
  pub columns : columns_of f ≤ 2 ^ 20
