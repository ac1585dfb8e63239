-- Rows after a pivot.
use Rattle.std.specs.Prelude.{ℕ, ◌≡◌, ◌≢◌, ◌⊎◌, List, [], ◌∷◌, length, Some, Contains, slice_get, slice_set}
use Rattle.kind_num.specs.declared.Past.{Past}
use Rattle.proof_steps.specs.StopView.{past_view}
use Rattle.proof_steps.specs.Rows.{entry}
use Rattle.int_simplex.specs.declared.trouble.Stopped.{Stopped}
use Rattle.int_simplex.specs.declared.trouble.Stopped.TheVariants as s
use Rattle.int_simplex.specs.declared.trouble.Trouble.TheVariants as t
use lib.IntN.{ℤ, pos}
use Rattle.int_simplex.specs.Crossing.{IsPivoted, IsRowPast}

-- the leaving row stays, and so does a row without an entry in the entering column; another one is
-- crossed with the leaving row
abbrev pub IsNext : ℕ → ℕ → ℕ → List (ℕ × ℤ) → ℕ → List (ℕ × ℤ) → List (ℕ × ℤ) → Type 0
IsNext n at entering other k row new =
    (((k ≡ at) ⊎ (entry row entering ≡ pos 0)) × (new ≡ row)) ⊎ ((k ≢ at) × IsPivoted n entering row other new)

pub record AreNext (n at entering : ℕ) (other : List (ℕ × ℤ)) (rows news : List (List (ℕ × ℤ))) : Type 0 where
  pub count : length news ≡ length rows
  pub each : (k : ℕ) (row new : List (ℕ × ℤ)) → slice_get rows k ≡ Some row → slice_get news k ≡ Some new
      → IsNext n at entering other k row new

-- no other rows than those at these places are crossed
pub record AreTurned (n at entering : ℕ) (other : List (ℕ × ℤ)) (rows news : List (List (ℕ × ℤ))) (touched : List ℕ) : Type 0 where
  pub next : AreNext n at entering other rows news
  pub left : (k : ℕ) → (Contains touched k → ⊥) → slice_get news k ≡ slice_get rows k

-- the operation is one over the two entries of a column
abbrev pub IsNextPast : ℕ → List (ℕ × ℤ) → List (ℕ × ℤ) → Stopped → Type 0
IsNextPast entering other row s.Memory = Unit
IsNextPast entering other row (s.Past step) =
    (past : Past) × (past_view step ≡ record { rows = row ∷ other ∷ []; past = past })
    × IsRowPast (entry other entering) (entry row entering) row other (t.Past past)

-- the row at the place k is left, or crossed
abbrev pub IsTurned : ℕ → ℕ → ℕ → List (ℕ × ℤ) → ℕ → List (List (ℕ × ℤ)) → List (List (ℕ × ℤ)) → Type 0
IsTurned n at entering other k rows news =
    ((news ≡ rows) × ((row : List (ℕ × ℤ)) → slice_get rows k ≡ Some row → (k ≡ at) ⊎ (entry row entering ≡ pos 0)))
    ⊎ ((row : List (ℕ × ℤ)) × (new : List (ℕ × ℤ)) × (slice_get rows k ≡ Some row) × (k ≢ at) × (entry row entering ≢ pos 0)
    × IsPivoted n entering row other new × (news ≡ slice_set rows k new))

abbrev pub IsTurnedPast : ℕ → ℕ → List (ℕ × ℤ) → ℕ → List (List (ℕ × ℤ)) → Stopped → Type 0
IsTurnedPast at entering other k rows s.Memory = Unit
IsTurnedPast at entering other k rows (s.Past step) =
    (row : List (ℕ × ℤ)) × (slice_get rows k ≡ Some row) × (k ≢ at) × (entry row entering ≢ pos 0)
    × IsNextPast entering other row (s.Past step)

-- the operation is one over another row and the leaving one
abbrev pub IsTurnPast : ℕ → ℕ → List (List (ℕ × ℤ)) → Stopped → Type 0
IsTurnPast at entering rows s.Memory = Unit
IsTurnPast at entering rows (s.Past step) =
    (other : List (ℕ × ℤ)) → slice_get rows at ≡ Some other
    → (j : ℕ) × (row : List (ℕ × ℤ)) × (j ≢ at) × (slice_get rows j ≡ Some row) × IsNextPast entering other row (s.Past step)
