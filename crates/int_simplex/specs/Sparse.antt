-- Rows that list the columns with an entry, in order.
use Rattle.std.specs.Prelude.{ℕ, suc, ◌≢◌, ◌==◌, ◌<◌, ◌≤◌, cond, List, [], ◌∷◌}
use lib.IntN.{ℤ, pos}

-- columns in order, from low on and below n, each with a number other than 0
abbrev pub IsFrom : ℕ → ℕ → List (ℕ × ℤ) → Type 0
IsFrom low n [] = Unit
IsFrom low n (t ∷ row) = (low ≤ t.0) × (t.0 < n) × (t.1 ≢ pos 0) × IsFrom (suc t.0) n row

abbrev pub IsSparse : ℕ → List (ℕ × ℤ) → Type 0
IsSparse n row = IsFrom 0 n row

-- the number of the column, if it is the first one
abbrev pub head_at : List (ℕ × ℤ) → ℕ → ℤ
head_at [] c = pos 0
head_at (t ∷ row) c = cond (t.0 == c) t.1 (pos 0)

-- what follows the column, if it is the first one
abbrev pub rest_at : List (ℕ × ℤ) → ℕ → List (ℕ × ℤ)
rest_at [] c = []
rest_at (t ∷ row) c = cond (t.0 == c) row (t ∷ row)

-- the column of the first entry, or n
abbrev pub first_column : List (ℕ × ℤ) → ℕ → ℕ
first_column [] n = n
first_column (t ∷ row) n = t.0
