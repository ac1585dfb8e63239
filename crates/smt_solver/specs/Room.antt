-- How much room the ranges of a query leave to splits.
use Rattle.std.specs.Prelude.{ℕ, suc, ◌≡◌, ◌+◌, List, [], ◌∷◌, Some, slice_get}
use lib.IntN.{ℤ, pos, negsuc, ◌-ℤ◌}
use Rattle.kind_num.specs.declared.Shape.{Shape}
use Rattle.kind_num.specs.declared.Shape.TheVariants.{Flag, Number}
use Rattle.proof_steps.specs.Rows.{Form}
use Rattle.proof_steps.specs.Bounds.{HasRange}

-- clauses of one literal give each number of the query the range from low to high
pub record HasRanges (f : Form) (low high : ℕ → ℤ) : Type 0 where
  pub given : (x : ℕ) → slice_get f.shapes x ≡ Some Number → HasRange f x (low x) (high x)

abbrev pub size_of : ℤ → ℕ
size_of (pos n) = n
size_of (negsuc n) = 0

-- how many c are such that c and c + 1 lie in the range
abbrev pub room : ℤ → ℤ → ℕ
room low high = size_of (high -ℤ low)

-- the sum of the rooms of the numbers, the first variable being n
abbrev pub rooms_from : ℕ → List Shape → (ℕ → ℤ) → (ℕ → ℤ) → ℕ
rooms_from n [] low high = 0
rooms_from n (Flag ∷ rest) low high = rooms_from (suc n) rest low high
rooms_from n (Number ∷ rest) low high = room (low n) (high n) + rooms_from (suc n) rest low high

abbrev pub rooms : Form → (ℕ → ℤ) → (ℕ → ℤ) → ℕ
rooms f low high = rooms_from 0 f.shapes low high
