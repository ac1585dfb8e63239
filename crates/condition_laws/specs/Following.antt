-- The conditions in rows that follow from the sources of a declaration: such rows are those of the frame in the slots that are read, and conditions read
-- no others.
use Rattle.std.specs.Prelude.{◌≡◌, ℕ, ◌<◌, true, List, Option}
use Rattle.std.specs.List.{AllByRecursion}
use Rattle.lus_meaning.specs.Frame.{Frame}
use Rattle.lus_meaning.specs.Scene.{Instance}
use Rattle.lus_meaning.specs.FirstBreak.{AreBreaks, AreLawful}
use Rattle.lus_meaning.specs.Program.{instance_of}
use Rattle.lus_meaning.specs.RuleLaws.{OfEach}
use Rattle.lus_meaning.specs.Trace.{BareLine, IsFrameOf}
use Rattle.slot_values.specs.Resolution.{Resolution}
use Rattle.slot_values.specs.Evaluated.{SlotValues, worth, outside}
use Rattle.evaluation_laws.specs.Rows.{row_at}
use Rattle.slot_sources.specs.Source.{Source}
use Rattle.slot_sources.specs.Rows.{slots_read, Follow}
use Rattle.slot_sources.specs.Sources.{sources_of}
use Rattle.row_laws.specs.Choices.{choices_of}
use Rattle.row_laws.specs.OneRow.{IsReadSlot}
use Rattle.condition_laws.specs.Conditions.{legal_resolutions, property_resolutions}
use Rattle.condition_laws.specs.Breaks.{AreRowBreaks, AreLawfulRows}

-- each slot that these read is there, and it is one that is read
abbrev pub ReadSlots : List Source → List Resolution → Type 0
ReadSlots es rs = AllByRecursion (λ r. AllByRecursion (IsReadSlot es) (slots_read r)) rs

abbrev pub ConditionsReadSlots : Type 0
ConditionsReadSlots =
    OfEach (λ p n. ReadSlots (sources_of (instance_of p n)) (legal_resolutions (instance_of p n))
    × ReadSlots (sources_of (instance_of p n)) (property_resolutions (instance_of p n)))

-- what is so of rows that follow from the sources of a declaration and from what lines choose, and of the frame that the lines give
abbrev pub OfFollowingRows : (Instance → ℕ → Frame → (ℕ → SlotValues) → Type 0) → Type 0
OfFollowingRows P =
    OfEach (λ p n. (ls : List BareLine) (m : ℕ) (f : Frame) → IsFrameOf ls (instance_of p n) m f → (rows : ℕ → SlotValues) →
    Follow (sources_of (instance_of p n)) (choices_of ls (instance_of p n)) m rows → P (instance_of p n) m f rows)

-- a resolution is worth the same in two rows, and has the same operations outside 128 bits
abbrev pub AreAlike : SlotValues → SlotValues → Resolution → Type 0
AreAlike s u r = (worth s true r ≡ worth u true r) × (outside s true r ≡ outside u true r)

abbrev pub FollowingRowsTellConditions : Type 0
FollowingRowsTellConditions =
    OfFollowingRows (λ i m f rows. (t : ℕ) → t < m →
    AllByRecursion (AreAlike (rows t) (row_at i f t)) (legal_resolutions i) × AllByRecursion (AreAlike (rows t) (row_at i f t)) (property_resolutions i))

-- so what they break the frame breaks
abbrev pub FollowingRowsBreak : Type 0
FollowingRowsBreak =
    OfFollowingRows (λ i m f rows. (hits : ℕ → Option ℕ) → AreRowBreaks rows (legal_resolutions i) (property_resolutions i) m hits → AreBreaks i f m hits)

abbrev pub FollowingRowsAreLawful : Type 0
FollowingRowsAreLawful = OfFollowingRows (λ i m f rows. (a : ℕ) → AreLawfulRows rows (legal_resolutions i) m a → AreLawful i f m a)
