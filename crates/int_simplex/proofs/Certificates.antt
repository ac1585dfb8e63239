-- The bounds that keep a column from its own refute it.
use Rattle.std.specs.Prelude.{ℕ, ◌≡◌, List, [], ◌∷◌, Some, slice_get}
use Rattle.std.proofs.Common.{◌∙◌, ap}
use lib.IntN.{ℤ}
use Rattle.kind_num.specs.declared.Past.{Past}
use Rattle.int_simplex.specs.Valued.{IsOpposedPast}
use Rattle.int_simplex.specs.Stopping.{IsOver}
use Rattle.int_simplex.specs.Refuting.{IsSizePast}
use Rattle.int_simplex.specs.declared.trouble.Stopped.{Stopped}
use Rattle.int_simplex.specs.declared.trouble.Stopped.TheVariants as s

pub size_past : (row : List (ℕ × ℤ)) (given : List (List (ℕ × ℤ))) (k : ℕ) (t : ℕ × ℤ) (g g1 : List (ℕ × ℤ)) (past : Past) (e : Stopped)
    → slice_get row k ≡ Some t → slice_get given 0 ≡ Some g → g1 ≡ g → IsOver row g1 past e → IsOpposedPast t.1 past → IsSizePast row given e
size_past row given k t g g1 past s.Memory et eg b o v = tt
size_past row given k t g g1 past (s.Past step) et eg b o v =
    (k, t, g, past, et, eg, o ∙ ap (λ (z : List (ℕ × ℤ)). record { rows = row ∷ z ∷ []; past = past }) b, v)
