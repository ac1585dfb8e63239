-- What is true of every tableau.
use Rattle.std.specs.Prelude.{ℕ, ◌≡◌, ◌<◌, true, false, List, length, All, Contains, Some, slice_get}
use lib.IntN.{ℤ, pos, ◌*ℤ◌}
use lib.Signed.{◌≤ℤ◌}
use Rattle.proof_steps.specs.Rows.{IsRow, IsBasis, HasValue, combined, entry}
use Rattle.int_simplex.specs.State.{Standing, State, places_of}
use Rattle.int_simplex.specs.Given.{AreGiven}
use Rattle.int_simplex.specs.Points.{IsFraction}

-- the row of the column in the basis: a whole combination of the given rows
pub record IsRowIn (given : List (List (ℕ × ℤ))) (basis : List ℕ) (x : ℕ) (row : List (ℕ × ℤ)) : Type 0 where
  pub multipliers : List ℤ
  pub is_row : IsRow given basis x multipliers
  pub entries : (c : ℕ) → entry row c ≡ combined multipliers given c

-- the value that the row of x gives it, where the columns outside the basis stand at their places
pub record IsValueOf (s : State) (x : ℕ) (v : ℤ × ℤ) : Type 0 where
  pub multipliers : List ℤ
  pub top : ℤ
  pub bottom : ℤ
  pub value : HasValue s.given s.columns s.basis (places_of s.values) x multipliers top bottom
  pub same : top *ℤ v.1 ≡ v.0 *ℤ bottom

-- no bounds of one column cross
abbrev pub IsUncrossed : List Standing → Type 0
IsUncrossed bounds =
    (low high : Standing) → Contains bounds low → Contains bounds high → low.column ≡ high.column
    → low.upper ≡ false → high.upper ≡ true → low.limit ≤ℤ high.limit

pub record IsSound (s : State) : Type 0 where
  pub given : AreGiven s.given s.columns
  pub basis : IsBasis s.given s.columns s.basis
  pub count : length s.values ≡ s.columns
  pub fractions : All IsFraction s.values
  pub outside : (c : ℕ) (v : ℤ × ℤ) → (¬ Contains s.basis c) → slice_get s.values c ≡ Some v → v.1 ≡ pos 1
  pub inside : (x : ℕ) (v : ℤ × ℤ) → Contains s.basis x → slice_get s.values x ≡ Some v → IsValueOf s x v
  pub of_columns : All (λ (b : Standing). b.column < s.columns) s.bounds
  pub uncrossed : IsUncrossed s.bounds
