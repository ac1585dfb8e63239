-- The laws of rows and sources of a checked program.
use Rattle.std.specs.Prelude.{◌≡◌, ℕ, List, length}
use Rattle.lus_meaning.specs.Frame.{Frame}
use Rattle.lus_meaning.specs.Program.{instance_of}
use Rattle.lus_meaning.specs.Scene.{Instance}
use Rattle.lus_meaning.specs.RuleLaws.{OfEach}
use Rattle.lus_meaning.specs.Slots.{slots}
use Rattle.lus_meaning.specs.Trace.{BareLine, IsFrameOf}
use Rattle.evaluation_laws.specs.Rows.{row_at}
use Rattle.slot_sources.specs.Rows.{Follow}
use Rattle.slot_sources.specs.Sources.{sources_of, HasRanks}
use Rattle.row_laws.specs.Choices.{choices_of}

-- the rows of the frame that these lines give follow from the sources of the slots and from what the lines choose
abbrev pub RowsFollow : Type 0
RowsFollow =
    OfEach (λ p n. (ls : List BareLine) (m : ℕ) (f : Frame) → IsFrameOf ls (instance_of p n) m f →
    Follow (sources_of (instance_of p n)) (choices_of ls (instance_of p n)) m (λ t. row_at (instance_of p n) f t))

-- there are as many sources as slots
abbrev pub EachSlotHasASource : Type 0
EachSlotHasASource = (i : Instance) → length (sources_of i) ≡ length (slots i)

-- ---- an order

-- there are ranks by which each slot is above those that its source reads at the same instant
abbrev pub SourcesHaveRanks : Type 0
SourcesHaveRanks = OfEach (λ p n. HasRanks (sources_of (instance_of p n)))
