-- The row of a run at an instant: the value of each slot, and what it shows of each frame.
use Rattle.std.specs.Prelude.{◌≡◌, ℕ, pred, ◌<◌, Bool, ◌++◌, List, [], ◌∷◌, map, unwrap_or, slice_get}
use Rattle.std.specs.List.{list_any}
use Rattle.lus_tree.specs.Tree.{Expression}
use Rattle.lus_meaning.specs.Value.{absent}
use Rattle.lus_meaning.specs.Frame.{Frame}
use Rattle.lus_meaning.specs.Scene.{Clock, Instance, calls_of, call_instance, Scene, is_on}
use Rattle.lus_meaning.specs.Meaning.{value, mode_key}
use Rattle.lus_meaning.specs.Contract.{terms}
use Rattle.lus_meaning.specs.Run.{IsRun}
use Rattle.lus_meaning.specs.Program.{instance_of}
use Rattle.lus_meaning.specs.RuleLaws.{OfEach}
use Rattle.lus_meaning.specs.Slots.{slots}
use Rattle.lus_meaning.specs.Verdict.{throughout}
use Rattle.sys_meaning.specs.Slot.{Place, place_of}
use Rattle.sys_meaning.specs.Items.{Key, Known}
use Rattle.sys_meaning.specs.State.{reading}
use Rattle.sys_meaning.specs.System.{number_of}
use Rattle.sys_meaning.specs.WellTyped.{count_of, IsKnown, Stands, ClockFits}
use Rattle.lus_evaluation.specs.Past.{scene_on}
use Rattle.slot_values.specs.Resolution.{Resolution}
use Rattle.slot_values.specs.Evaluated.{SlotValues, worth}
use Rattle.slot_values.specs.Resolved.{resolution}
use Rattle.slot_values.specs.FrameRow.{numbering, Shows}
use Rattle.evaluation_laws.specs.Resolvings.{resolvings, at_numbers}

-- the values of a frame's slots at an instant, each by its number: absent where the clock of what a slot stands for is off
abbrev pub row_at : Instance → Frame → ℕ → SlotValues
row_at i f t k = unwrap_or (slice_get (map (λ q. reading i throughout f (place_of q) t) (slots i)) k) absent

-- each number on a way is that of a call or an import, seen from the frame before it
abbrev pub AreCalls : Instance → List ℕ → Type 0
AreCalls i [] = Unit {0}
AreCalls i (k ∷ w) = (0 < k) × (pred k < count_of (calls_of i)) × AreCalls (call_instance i k) w

-- the numbers of the places of the frame at the end of a way of calls
abbrev pub numbers_on : List ℕ → (Place → ℕ) → Place → ℕ
numbers_on w at p = at (w ++ p.0, p.1)

-- the modes of a declaration's contract, imports included
abbrev pub knows : Instance → Key → Bool
knows i key = list_any (λ m. mode_key key m.key) (terms i).modes

-- ---- at the end of a way of calls

-- the frame's scene
abbrev pub scene_there : Instance → Frame → List ℕ → Scene
scene_there i f w = scene_on w i throughout f

abbrev pub numbers_there : Instance → List ℕ → Place → ℕ
numbers_there i w = numbers_on w (number_of i)

abbrev pub modes_there : Instance → Frame → List ℕ → Known Resolution
modes_there i f w = at_numbers (numbers_there i w) (resolvings (scene_there i f w).place)

abbrev pub resolution_there : Instance → Frame → List ℕ → Expression → Resolution
resolution_there i f w e = resolution (numbering (scene_there i f w) (numbers_there i w) (modes_there i f w)) e

abbrev pub RowShows : Instance → Frame → ℕ → List ℕ → Type 0
RowShows i f t w =
    Shows (scene_there i f w) (knows (scene_there i f w).place) (numbers_there i w) (modes_there i f w) (row_at i f t) t

-- the resolution of an expression is worth the expression's value, on its clock and off it
abbrev pub RowValues : Instance → Frame → ℕ → List ℕ → Type 0
RowValues i f t w =
    let s : Scene = scene_there i f w in
    (c : Clock) (e : Expression) → Stands s.place (IsKnown s.place) c e → ClockFits s.place (IsKnown s.place) c →
    worth (row_at i f t) (is_on s c t) (resolution_there i f w e) ≡ value s c e t

-- ---- of checked programs

-- what is so of a run of each declaration, at each instant and for the frame at the end of each way of calls
abbrev pub OfEachFrame : (Instance → Frame → ℕ → List ℕ → Type 0) → Type 0
OfEachFrame P =
    OfEach (λ p n. (m : ℕ) (f : Frame) → IsRun (instance_of p n) m throughout f → (t : ℕ) → t < m →
    (w : List ℕ) → AreCalls (instance_of p n) w → P (instance_of p n) f t w)

abbrev pub RowsShow : Type 0
RowsShow = OfEachFrame RowShows

abbrev pub RowsGiveValues : Type 0
RowsGiveValues = OfEachFrame RowValues
