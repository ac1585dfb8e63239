-- What the sources of a declaration say of the texts of its frames, where none of them has an operation outside 128 bits.
use Rattle.std.specs.Prelude.{◌≡◌, ℕ, pred, ◌<◌, true, List, [], ◌++◌, Some, slice_get}
use Rattle.std.specs.List.{AllByRecursion}
use Rattle.lus_tree.specs.Tree.{Expression}
use Rattle.lus_meaning.specs.Frame.{Frame}
use Rattle.lus_meaning.specs.Scene.{Clock, Instance, component_of, calls_of, clock_of_names}
use Rattle.lus_meaning.specs.Run.{equations}
use Rattle.sys_meaning.specs.Defaults.{site_of}
use Rattle.sys_meaning.specs.WellTyped.{count_of, IsKnown, IsMemory}
use Rattle.lus_evaluation.specs.Frame.{call_condition}
use Rattle.slot_values.specs.Evaluated.{SlotValues}
use Rattle.slot_sources.specs.Source.{Source}
use Rattle.slot_sources.specs.Rows.{outside_now, outside_next, is_read}
use Rattle.slot_sources.specs.Sources.{sources_of}
use Rattle.evaluation_laws.specs.Rows.{row_at, OfEachFrame}
use Rattle.order_laws.specs.Rows.{place_there}
use Rattle.within_laws.specs.Texts.{IsQuiet, EachQuiet}

-- no source of a slot that is read meets an operation outside in a row, neither at its instant nor for the next one
abbrev pub AreSourcesQuiet : SlotValues → List Source → Type 0
AreSourcesQuiet row es =
    (k : ℕ) (e : Source) → slice_get es k ≡ Some e → is_read e ≡ true → (outside_now row e ≡ []) × (outside_next row e ≡ [])

-- the texts of the frame at the end of a way of calls that sources evaluate: right sides, operands of `pre`, and conditions and arguments of calls and imports
pub record IsFrameQuiet (i : Instance) (f : Frame) (t : ℕ) (w : List ℕ) : Type 0 where
  pub rights : AllByRecursion (λ e. IsQuiet i f t w (clock_of_names (component_of (place_there i f w)) e.names) e.right)
      (equations (component_of (place_there i f w)))
  pub memories : (k : ℕ) (c : Clock) (a : Expression) → IsMemory (place_there i f w) (IsKnown (place_there i f w)) k c a → IsQuiet i f t w c a
  pub calls : (k : ℕ) → 0 < k → pred k < count_of (calls_of (place_there i f w)) →
      EachQuiet i f t w (site_of (place_there i f w) k).clock
      (call_condition (site_of (place_there i f w) k) (site_of (place_there i f w) k).manner ++ (site_of (place_there i f w) k).arguments)

-- where no source has an operation outside, none of these has
abbrev pub FramesAreQuiet : Type 0
FramesAreQuiet = OfEachFrame (λ i f t w. AreSourcesQuiet (row_at i f t) (sources_of i) → IsFrameQuiet i f t w)
