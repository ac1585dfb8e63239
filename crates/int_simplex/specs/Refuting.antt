-- The bounds that keep a column of the basis from its own.
use Rattle.std.specs.Prelude.{ℕ, ◌≡◌, Bool, List, [], ◌∷◌, Option, Some, None, slice_get, unsigned_abs}
use lib.IntN.{ℤ, pos}
use Rattle.kind_num.specs.declared.Past.{Past}
use Rattle.proof_steps.specs.StopView.{past_view}
use Rattle.int_simplex.specs.Choosing.{limit_at, on_side, differs, grows}
use Rattle.int_simplex.specs.Valued.{IsOpposedPast}
use Rattle.int_simplex.specs.declared.trouble.Stopped.{Stopped}
use Rattle.int_simplex.specs.declared.trouble.Stopped.TheVariants as s

abbrev pub literal_in : Option (ℤ × ℕ) → ℕ
literal_in None = 0
literal_in (Some b) = b.1

-- the limit of the column that stops x, or that x misses
abbrev pub stop_side : List (ℕ × ℤ) → ℕ → Bool → ℤ → Bool
stop_side row x side e = differs (grows row x e) side

abbrev pub stop_limit : List (ℕ × ℤ) → ℕ → Bool → List (Option (ℤ × ℕ)) → List (Option (ℤ × ℕ)) → ℕ × ℤ → Option (ℤ × ℕ)
stop_limit row x side lowers uppers t = on_side (stop_side row x side t.1) (limit_at lowers t.0) (limit_at uppers t.0)

-- the size of the number, with the literal of the limit
abbrev pub part_of : List (ℕ × ℤ) → ℕ → Bool → List (Option (ℤ × ℕ)) → List (Option (ℤ × ℕ)) → ℕ × ℤ → ℤ × ℕ
part_of row x side lowers uppers t = (pos (unsigned_abs t.1), literal_in (stop_limit row x side lowers uppers t))

-- the size of a number is outside
abbrev pub IsSizePast : List (ℕ × ℤ) → List (List (ℕ × ℤ)) → Stopped → Type 0
IsSizePast row given s.Memory = Unit
IsSizePast row given (s.Past step) =
    (k : ℕ) × (t : ℕ × ℤ) × (g : List (ℕ × ℤ)) × (past : Past) × (slice_get row k ≡ Some t) × (slice_get given 0 ≡ Some g)
    × (past_view step ≡ record { rows = row ∷ g ∷ []; past = past }) × IsOpposedPast t.1 past
