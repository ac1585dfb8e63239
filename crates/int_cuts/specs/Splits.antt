-- Values that are not whole.
use Rattle.std.specs.Prelude.{ℕ, ◌≡◌, ◌≢◌, ◌<◌, List, All, Option, Some, None, slice_get}
use lib.IntN.{ℤ, pos}
use Rattle.kind_num.specs.Division.{IsFloor}

abbrev pub IsWhole : ℤ × ℤ → Type 0
IsWhole v = v.1 ≡ pos 1

-- the least column whose value is not whole, with its floor
pub record IsFirstBroken (values : List (ℤ × ℤ)) (c : ℕ) (z : ℤ) : Type 0 where
  pub value : ℤ × ℤ
  pub stands : slice_get values c ≡ Some value
  pub broken : value.1 ≢ pos 1
  pub floor : IsFloor value.0 value.1 z
  pub first : (k : ℕ) (v : ℤ × ℤ) → k < c → slice_get values k ≡ Some v → IsWhole v

abbrev pub IsSplitOf : List (ℤ × ℤ) → Option (ℕ × ℤ) → Type 0
IsSplitOf values None = All IsWhole values
IsSplitOf values (Some p) = IsFirstBroken values p.0 p.1

-- the column's value is not whole
abbrev pub IsBroken : List (ℤ × ℤ) → ℕ → Type 0
IsBroken values c = (v : ℤ × ℤ) × (slice_get values c ≡ Some v) × (v.1 ≢ pos 1)
