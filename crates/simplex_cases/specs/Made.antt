-- Rows with a column of their own behind their variables.
use Rattle.std.specs.Prelude.{ℕ, ◌≡◌, ◌≢◌, ◌⊎◌, ◌+◌, List, [], ◌∷◌, ◌++◌, length, Some, slice_get}
use lib.IntN.{ℤ, pos, negsuc}
use Rattle.int_simplex.specs.Sparse.{IsFrom}

abbrev pub IsGrown : ℕ → ℤ → List (ℕ × ℤ) → List (ℕ × ℤ) → Type 0
IsGrown x a old new = ((a ≡ pos 0) × (new ≡ old)) ⊎ ((a ≢ pos 0) × (new ≡ old ++ (x, a) ∷ []))

-- entries of the columns below n, and -1 in the own column
abbrev pub IsMade : ℕ → ℕ → List (ℕ × ℤ) → Type 0
IsMade n own row = (front : List (ℕ × ℤ)) × IsFrom 0 n front × (row ≡ front ++ (own, negsuc 0) ∷ [])

-- the row at place k has the own column n + k
pub record AreMade (n count : ℕ) (rows : List (List (ℕ × ℤ))) : Type 0 where
  pub number : length rows ≡ count
  pub each : (k : ℕ) (r : List (ℕ × ℤ)) → slice_get rows k ≡ Some r → IsMade n (n + k) r
