-- What the replay by the table of a declaration's slots says of the one frame of a trace.
use Rattle.std.specs.Prelude.{◌≡◌, ℕ, List, [], Some, Option, slice_get}
use Rattle.std.specs.List.{AllByRecursion}
use Rattle.lus_tree.specs.Tree.{Component, Program}
use Rattle.lus_meaning.specs.ClockFaults.{components}
use Rattle.lus_meaning.specs.FirstBreak as meaning
use Rattle.lus_meaning.specs.Fits.{FitsInstance}
use Rattle.lus_meaning.specs.Frame.{Frame, entry}
use Rattle.lus_meaning.specs.Program.{instance_of}
use Rattle.lus_meaning.specs.Refusals.{IsChecked}
use Rattle.lus_meaning.specs.Replay.{frame_on}
use Rattle.lus_meaning.specs.Scene.{Instance, component_of, variables}
use Rattle.lus_meaning.specs.Trace.{BareLine, IsFrameOf}
use Rattle.sys_meaning.specs.Slot.{named, own}
use Rattle.lus_evaluation.specs.Evaluation.{instance_on}
use Rattle.lus_evaluation.specs.Outcome.{MeetsPast, StaysWithin}
use Rattle.slot_values.specs.Evaluated.{SlotValues}
use Rattle.slot_values.specs.declared.resolved.PastAt.{PastAt}
use Rattle.slot_sources.specs.Rows.{Choices}
use Rattle.slot_sources.specs.Sources.{sources_of}
use Rattle.slot_rows.specs.Order.{IsSlotOrder}
use Rattle.slot_rows.specs.Table.{Row, rows, value_in}
use Rattle.evaluation_laws.specs.Rows.{numbers_there}
use Rattle.slot_replay.specs.Answer.{AreBreaks, AreLawful, GoesThrough, IsToldOf, seen_in}
use Rattle.replay_laws.specs.Chosen.{Chooses}
use Rattle.replay_laws.specs.OverSlots.{AreDeclaredParts, conditions_over}

-- ---- what is replayed

-- So many instants of the declaration of that number, constants left out, of a checked program: lines that fit it, an order of its slots, and what is chosen.
pub record IsReplayable (p : Program) (k : ℕ) (d : Component) (ls : List BareLine) (n : ℕ) (c : Choices) (ks : List ℕ) : Type 0 where
  pub checked : IsChecked p
  pub declared : slice_get (components p) k ≡ Some d
  pub fits : FitsInstance (instance_of p d) n ls
  pub order : IsSlotOrder (sources_of (instance_of p d)) ks
  pub chosen : Chooses ls (instance_of p d) c

-- the table of its slots
abbrev pub table_of : Program → Component → ℕ → Choices → List ℕ → List Row
table_of p d n c ks = rows c (sources_of (instance_of p d)) ks n

-- ---- what is said of the frame

-- the lines have one frame, and this is so of it
pub record OfOneFrame (ls : List BareLine) (i : Instance) (n : ℕ) (P : Frame → Type 0) : Type 0 where
  pub frame : Frame
  pub is_frame : IsFrameOf ls i n frame
  pub only : (other : Frame) → IsFrameOf ls i n other → other ≡ frame
  pub so : P frame

-- the slots of the names of the frame at the end of a way of calls have the names' values
abbrev pub HaveNames : Instance → Frame → (ℕ → SlotValues) → List ℕ → Type 0
HaveNames i f values w =
    AllByRecursion (λ v. (t : ℕ) → values t (numbers_there i w (own (named v.name.text))) ≡ entry (frame_on f w) v.name.text t)
    (variables (component_of (instance_on i w)))

-- Its evaluation stays within 128 bits; it breaks and has lawful what is said; and in these rows the names of the declaration have their values, and those of
-- each frame in which something is evaluated.
pub record IsShown (i : Instance) (f : Frame) (n : ℕ) (values : ℕ → SlotValues) (hits : ℕ → Option ℕ) (a : ℕ) : Type 0 where
  pub within : StaysWithin i f n
  pub breaks : meaning.AreBreaks i f n hits
  pub lawful : meaning.AreLawful i f n a
  pub names : HaveNames i f values []
  pub frames : AllByRecursion (λ q. HaveNames i f values q.way) within.parts

-- ---- the laws

abbrev pub OfReplayable : (Program → ℕ → Component → List BareLine → ℕ → List Row → Type 0) → Type 0
OfReplayable P =
    (p : Program) (k : ℕ) (d : Component) (ls : List BareLine) (n : ℕ) (c : Choices) (ks : List ℕ) → IsReplayable p k d ls n c ks →
    P p k d ls n (table_of p d n c ks)

-- An operation that is told by the table is the first value outside 128 bits that the evaluation of the one frame meets.
abbrev pub ToldIsMet : Type 0
ToldIsMet =
    OfReplayable (λ p k d ls n table. (t : ℕ) (x : PastAt) →
    IsToldOf (seen_in table) (conditions_over (instance_of p d)) (AreDeclaredParts p k) n t x →
    OfOneFrame ls (instance_of p d) n (λ f. MeetsPast (instance_of p d) f n x.at t x.past))

-- Where the replay by the table goes through, its answer is what the one frame shows.
abbrev pub AnswerIsShown : Type 0
AnswerIsShown =
    OfReplayable (λ p k d ls n table. GoesThrough (seen_in table) (conditions_over (instance_of p d)) (AreDeclaredParts p k) n →
    (hits : ℕ → Option ℕ) (a : ℕ) → AreBreaks (value_in table) (conditions_over (instance_of p d)) n hits →
    AreLawful (value_in table) (conditions_over (instance_of p d)) n a →
    OfOneFrame ls (instance_of p d) n (λ f. IsShown (instance_of p d) f n (value_in table) hits a))
