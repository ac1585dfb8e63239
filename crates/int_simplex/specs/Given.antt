-- What rows a tableau is made of.
use Rattle.std.specs.Prelude.{ℕ, ◌≡◌, ◌≢◌, ◌<◌, List, [], ◌∷◌, map, All, Some, slice_get, max}
use Rattle.std.specs.List.Sorted.{IsStrictlyIncreasing}
use lib.IntN.{ℤ, pos, negsuc}
use Rattle.proof_steps.specs.Rows.{entry, AllDiffer}

abbrev pub column_of : ℕ × ℤ → ℕ
column_of t = t.0

-- each column once, in order
abbrev pub IsInOrder : List (ℕ × ℤ) → Type 0
IsInOrder row = IsStrictlyIncreasing (map column_of row)

abbrev pub IsWithin : ℕ → List (ℕ × ℤ) → Type 0
IsWithin columns row = All (λ (t : ℕ × ℤ). t.0 < columns) row

-- no entry is 0
abbrev pub HasNoZero : List (ℕ × ℤ) → Type 0
HasNoZero row = All (λ (t : ℕ × ℤ). t.1 ≢ pos 0) row

abbrev pub last_column : List (ℕ × ℤ) → ℕ
last_column [] = 0
last_column (t ∷ rest) = max t.0 (last_column rest)

-- no row lists a column twice, and the greatest column of each row has the entry -1 there and
-- stands in no other row
pub record AreGiven (given : List (List (ℕ × ℤ))) (columns : ℕ) : Type 0 where
  pub different : All (λ (r : List (ℕ × ℤ)). AllDiffer (map column_of r)) given
  pub in_range : All (IsWithin columns) given
  pub ends : All (λ r. entry r (last_column r) ≡ negsuc 0) given
  pub alone : (i j : ℕ) (r s : List (ℕ × ℤ)) → i ≢ j → slice_get given i ≡ Some r → slice_get given j ≡ Some s
      → entry s (last_column r) ≡ pos 0

-- the first basis
abbrev pub last_columns : List (List (ℕ × ℤ)) → List ℕ
last_columns given = map last_column given
