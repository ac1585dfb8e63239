-- That rows follow from sources in one way alone.
use Rattle.std.specs.Prelude.{◌≡◌, ℕ, ◌<◌, Bool, true, List, Some, slice_get}
use Rattle.std.specs.List.{AllByRecursion}
use Rattle.lus_tree.specs.Tree.{Expression}
use Rattle.lus_meaning.specs.Value.{Value}
use Rattle.lus_meaning.specs.Frame.{Frame}
use Rattle.lus_meaning.specs.Scene.{Clock, Instance, is_on}
use Rattle.lus_meaning.specs.Meaning.{value}
use Rattle.lus_meaning.specs.Program.{instance_of}
use Rattle.lus_meaning.specs.RuleLaws.{OfEach}
use Rattle.lus_meaning.specs.Trace.{BareLine, IsFrameOf}
use Rattle.sys_meaning.specs.WellTyped.{IsKnown, Stands, ClockFits}
use Rattle.slot_values.specs.Resolution.{Resolution}
use Rattle.slot_values.specs.Evaluated.{SlotValues, worth, outside}
use Rattle.evaluation_laws.specs.Rows.{row_at, AreCalls, scene_there, resolution_there}
use Rattle.slot_sources.specs.Source.{Source}
use Rattle.slot_sources.specs.Rows.{Choices, value_now, outside_now, brought_next, outside_next, brought, is_read, slots_read, reads_now, reads_before, Follow}
use Rattle.slot_sources.specs.Sources.{sources_of, HasRanks}
use Rattle.row_laws.specs.Choices.{choices_of}

-- there is a slot with this number, and it is one that is read
abbrev pub IsReadSlot : List Source → ℕ → Type 0
IsReadSlot es j = (e : Source) × (slice_get es j ≡ Some e) × (is_read e ≡ true)

-- no source reads another one, at its instant or from the one before
abbrev pub ReadSlotsAlone : List Source → Type 0
ReadSlotsAlone es =
    (k : ℕ) (e : Source) → slice_get es k ≡ Some e → AllByRecursion (IsReadSlot es) (reads_now e) × AllByRecursion (IsReadSlot es) (reads_before e)

abbrev pub SourcesReadSlots : Type 0
SourcesReadSlots = OfEach (λ p n. ReadSlotsAlone (sources_of (instance_of p n)))

-- where two rows have the same in all slots that are read
abbrev pub AreSameRows : List Source → ℕ → (ℕ → SlotValues) → (ℕ → SlotValues) → Type 0
AreSameRows es n rows others =
    (t : ℕ) → t < n → (k : ℕ) (e : Source) → slice_get es k ≡ Some e → is_read e ≡ true → rows t k ≡ others t k

abbrev pub OneRowFollows : Type 0
OneRowFollows =
    (es : List Source) → HasRanks es → ReadSlotsAlone es → (c : Choices) (n : ℕ) (rows others : ℕ → SlotValues) → Follow es c n rows →
    Follow es c n others → AreSameRows es n rows others

-- rows that follow from the sources of a declaration and from what lines choose are those of the frame that the lines give
abbrev pub RowsAreTheFrames : Type 0
RowsAreTheFrames =
    OfEach (λ p n. (ls : List BareLine) (m : ℕ) (f : Frame) → IsFrameOf ls (instance_of p n) m f → (rows : ℕ → SlotValues) →
    Follow (sources_of (instance_of p n)) (choices_of ls (instance_of p n)) m rows →
    AreSameRows (sources_of (instance_of p n)) m rows (λ t. row_at (instance_of p n) f t))

-- ---- expressions

-- of rows that follow from the sources of a declaration and from what lines choose: what is so at each instant, of the frame at the end of each way of
-- calls and of each expression that stands there
abbrev pub OfFollowingRows : (SlotValues → Instance → Frame → ℕ → List ℕ → Clock → Expression → Type 0) → Type 0
OfFollowingRows P =
    OfEach (λ p n. (ls : List BareLine) (m : ℕ) (f : Frame) → IsFrameOf ls (instance_of p n) m f → (rows : ℕ → SlotValues) →
    Follow (sources_of (instance_of p n)) (choices_of ls (instance_of p n)) m rows → (t : ℕ) → t < m → (w : List ℕ) → AreCalls (instance_of p n) w →
    let j : Instance = (scene_there (instance_of p n) f w).place in
    (c : Clock) (e : Expression) → Stands j (IsKnown j) c e → ClockFits j (IsKnown j) c → P (rows t) (instance_of p n) f t w c e)

abbrev pub on_there : Instance → Frame → ℕ → List ℕ → Clock → Bool
on_there i f t w c = is_on (scene_there i f w) c t

-- the resolution of the expression is worth the expression's value in the frame that the lines give
abbrev pub FollowingRowsGiveValues : Type 0
FollowingRowsGiveValues =
    OfFollowingRows (λ s i f t w c e. worth s (on_there i f t w c) (resolution_there i f w e) ≡ value (scene_there i f w) c e t)

-- and its operations outside 128 bits are those in the row of that frame
abbrev pub FollowingRowsTellParts : Type 0
FollowingRowsTellParts =
    OfFollowingRows (λ s i f t w c e.
    outside s (on_there i f t w c) (resolution_there i f w e) ≡ outside (row_at i f t) (on_there i f t w c) (resolution_there i f w e))

-- ---- rows in the making

-- what a resolution is worth, and which of its operations are outside, is decided by the slots that it reads
abbrev pub ResolutionsBySlotsRead : Type 0
ResolutionsBySlotsRead =
    (s u : SlotValues) (on : Bool) (e : Resolution) → AllByRecursion (λ k. s k ≡ u k) (slots_read e) →
    (worth s on e ≡ worth u on e) × (outside s on e ≡ outside u on e)

-- and so it is with sources
pub record IsDecided (s u : SlotValues) (e : Source) : Type 0 where
  pub values : AllByRecursion (λ k. s k ≡ u k) (reads_now e) → (v : Value) → value_now s v e ≡ value_now u v e
  pub operations : AllByRecursion (λ k. s k ≡ u k) (reads_now e) → outside_now s e ≡ outside_now u e
  pub brought : AllByRecursion (λ k. s k ≡ u k) (reads_before e) → (k : ℕ) → s k ≡ u k → brought_next s k e ≡ brought_next u k e
  pub operations_before : AllByRecursion (λ k. s k ≡ u k) (reads_before e) → outside_next s e ≡ outside_next u e

abbrev pub SourcesBySlotsRead : Type 0
SourcesBySlotsRead = (s u : SlotValues) (e : Source) → IsDecided s u e

-- the slots of a row that are done: they have what their sources say, and so have those that these read
abbrev pub IsDone : List Source → Choices → ℕ → (ℕ → SlotValues) → (ℕ → Bool) → Type 0
IsDone es c n rows done =
    (k : ℕ) (e : Source) → slice_get es k ≡ Some e → is_read e ≡ true → done k ≡ true →
    (rows n k ≡ value_now (rows n) (brought c rows k n e) e) × AllByRecursion (λ j. done j ≡ true) (reads_now e)

-- behind rows that follow, what is done of the next row is as in the row of the frame that the lines give
abbrev pub DoneSlotsAreTheFrames : Type 0
DoneSlotsAreTheFrames =
    OfEach (λ p n. (ls : List BareLine) (m : ℕ) (f : Frame) → IsFrameOf ls (instance_of p n) m f → (rows : ℕ → SlotValues) (t : ℕ) → t < m →
    Follow (sources_of (instance_of p n)) (choices_of ls (instance_of p n)) t rows → (done : ℕ → Bool) →
    IsDone (sources_of (instance_of p n)) (choices_of ls (instance_of p n)) t rows done → (k : ℕ) (e : Source) →
    slice_get (sources_of (instance_of p n)) k ≡ Some e → is_read e ≡ true → done k ≡ true → rows t k ≡ row_at (instance_of p n) f t k)
