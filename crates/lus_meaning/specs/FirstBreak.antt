-- What a frame of n instants breaks, and how many of its instants are lawful.
use Rattle.std.specs.Prelude.{◌≡◌, ◌≤◌, ◌<◌, ℕ, Option, Some, None, slice_get}
use Rattle.lus_meaning.specs.Frame.{Frame}
use Rattle.lus_meaning.specs.Scene.{Instance}
use Rattle.lus_meaning.specs.Contract.{Property}
use Rattle.lus_meaning.specs.Property.{properties, IsLawful}
use Rattle.lus_meaning.specs.Verdict.{throughout, Breaks}

-- the instant before n at which the frame breaks the property, if there is one
abbrev pub IsBreak : Instance → Property → Frame → ℕ → Option ℕ → Type 0
IsBreak i p f n None = (t : ℕ) → t < n → Breaks i p f t → ⊥
IsBreak i p f n (Some t) = (t < n) × Breaks i p f t

-- where there is no property nothing breaks
abbrev pub IsBreakOf : Instance → Option Property → Frame → ℕ → Option ℕ → Type 0
IsBreakOf i None f n hit = hit ≡ None
IsBreakOf i (Some p) f n hit = IsBreak i p f n hit

-- the instant of each property, by its number from 0
abbrev pub AreBreaks : Instance → Frame → ℕ → (ℕ → Option ℕ) → Type 0
AreBreaks i f n hits = (k : ℕ) → IsBreakOf i (slice_get (properties i) k) f n (hits k)

-- how many of n instants are lawful: the first ones
pub record AreLawful (i : Instance) (f : Frame) (n a : ℕ) : Type 0 where
  pub most : a ≤ n
  pub lawful : (t : ℕ) → t < a → IsLawful i throughout f t
  pub lawless : (t : ℕ) → a ≤ t → t < n → IsLawful i throughout f t → ⊥
