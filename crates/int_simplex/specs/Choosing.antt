-- Which columns leave and enter, by the tables of limits.
use Rattle.std.specs.Prelude.{ℕ, ◌≡◌, ◌≢◌, ◌⊎◌, ◌<◌, ◌≤◌, Bool, true, false, List, Option, Some, None, slice_get}
use lib.IntN.{ℤ, pos}
use lib.Signed.{lt_z}
use Rattle.proof_steps.specs.Rows.{entry}
use Rattle.proof_steps.specs.Pivots.{IsPast, CanRise, CanFall}
use Rattle.int_simplex.specs.Valued.{place_at}
use Rattle.int_simplex.specs.declared.choosing.Exit.{Exit}

abbrev pub limit_in : Option (Option (ℤ × ℕ)) → Option (ℤ × ℕ)
limit_in None = None
limit_in (Some o) = o

abbrev pub limit_at : List (Option (ℤ × ℕ)) → ℕ → Option (ℤ × ℕ)
limit_at limits c = limit_in (slice_get limits c)

-- a limit without its literal
abbrev pub bare : Option (ℤ × ℕ) → Option ℤ
bare None = None
bare (Some b) = Some b.0

abbrev pub on_side : Bool → Option (ℤ × ℕ) → Option (ℤ × ℕ) → Option (ℤ × ℕ)
on_side true low high = high
on_side false low high = low

-- the value is past the limit on that side
abbrev pub IsMissed : Option (ℤ × ℕ) → Option (ℤ × ℕ) → ℤ × ℤ → Bool → ℤ → Type 0
IsMissed low high v side limit = (bare (on_side side low high) ≡ Some limit) × IsPast side limit v.0 v.1

abbrev pub IsMissedAt : List (ℤ × ℤ) → List (Option (ℤ × ℕ)) → List (Option (ℤ × ℕ)) → ℕ → Bool → ℤ → Type 0
IsMissedAt values lowers uppers x side limit =
    (v : ℤ × ℤ) × (slice_get values x ≡ Some v) × IsMissed (limit_at lowers x) (limit_at uppers x) v side limit

-- the best one stays, or this column is better
abbrev pub IsSooner : Option Exit → ℕ → ℕ → ℤ × ℤ → Option (ℤ × ℕ) → Option (ℤ × ℕ) → Option Exit → Type 0
IsSooner best at column v low high new =
    ((new ≡ best) × (((side : Bool) (limit : ℤ) → IsMissed low high v side limit → ⊥)
    ⊎ ((b : Exit) × (best ≡ Some b) × (b.column ≤ column))))
    ⊎ ((l : Exit) × (new ≡ Some l) × (l.at ≡ at) × (l.column ≡ column) × IsMissed low high v l.side l.limit
    × ((b : Exit) → best ≡ Some b → column < b.column))

-- of the first i columns of the basis the least one that misses a limit
abbrev pub IsLeavingOf : List ℕ → List (ℤ × ℤ) → List (Option (ℤ × ℕ)) → List (Option (ℤ × ℕ)) → ℕ → Option Exit → Type 0
IsLeavingOf basis values lowers uppers i None =
    (k x : ℕ) (side : Bool) (limit : ℤ) → k < i → slice_get basis k ≡ Some x → IsMissedAt values lowers uppers x side limit → ⊥
IsLeavingOf basis values lowers uppers i (Some l) =
    (slice_get basis l.at ≡ Some l.column) × IsMissedAt values lowers uppers l.column l.side l.limit
    × ((k x : ℕ) (side : Bool) (limit : ℤ) → k < i → slice_get basis k ≡ Some x → x < l.column
    → IsMissedAt values lowers uppers x side limit → ⊥)

abbrev pub is_same_side : Bool → Bool → Bool
is_same_side true b = b
is_same_side false true = false
is_same_side false false = true

abbrev pub differs : Bool → Bool → Bool
differs a b = is_same_side (is_same_side a b) false

-- down, or up
abbrev pub CanMove : Bool → Option ℤ → Option ℤ → ℤ → Type 0
CanMove true low high z = CanFall low z
CanMove false low high z = CanRise high z

-- whether the column's value grows with that of x, by the row of x
abbrev pub grows : List (ℕ × ℤ) → ℕ → ℤ → Bool
grows row x e = differs (lt_z (pos 0) e) (lt_z (pos 0) (entry row x))

-- the same by the numbers alone
abbrev pub CanHelp : ℕ → Bool → Bool → ℕ → ℤ → ℤ → Option (ℤ × ℕ) → Option (ℤ × ℕ) → Type 0
CanHelp x side falls column e place low high =
    (column ≢ x) × CanMove (is_same_side side (differs (lt_z (pos 0) e) falls)) (bare low) (bare high) place

-- the column can bring x back, which is past its limit on that side
pub record Enters (row : List (ℕ × ℤ)) (x : ℕ) (side : Bool) (places : List ℤ) (lowers uppers : List (Option (ℤ × ℕ))) (c : ℕ) : Type 0 where
  pub other : c ≢ x
  pub has_entry : entry row c ≢ pos 0
  pub can : CanMove (is_same_side side (grows row x (entry row c))) (bare (limit_at lowers c)) (bare (limit_at uppers c)) (place_at places c)

abbrev pub IsEntering : List (ℕ × ℤ) → ℕ → Bool → List ℤ → List (Option (ℤ × ℕ)) → List (Option (ℤ × ℕ)) → Option ℕ → Type 0
IsEntering row x side places lowers uppers None = (c : ℕ) → Enters row x side places lowers uppers c → ⊥
IsEntering row x side places lowers uppers (Some c) =
    Enters row x side places lowers uppers c × ((k : ℕ) → k < c → Enters row x side places lowers uppers k → ⊥)
