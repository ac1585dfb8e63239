-- What a count of faults says of a call.
use Rattle.std.specs.Prelude.{◌≡◌, ℕ, ◌+◌, ◌-◌, ◌^◌, ◌≤◌, min}

-- the count after one more, which stops at its type's end
abbrev pub one_more : ℕ → ℕ
one_more count = min (count + 1) (2 ^ 64 - 1)

-- the count has risen, or stands at its type's end
abbrev pub Rose : ℕ → ℕ → Type 0
Rose before now = one_more before ≤ now

-- the count stands where the call did not fail
abbrev pub StandsUnless : Type 0 → ℕ → ℕ → Type 0
StandsUnless failed before now = (failed → ⊥) → now ≡ before
