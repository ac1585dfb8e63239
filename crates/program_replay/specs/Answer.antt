-- What the replay of a trace answers.
use Rattle.std.specs.Prelude.{◌≡◌, ℕ, false, List, [], Option, Some, slice_get}
use Rattle.std.specs.List.{AllByRecursion}
use Rattle.std.specs.Option.{option_map_or}
use Rattle.lus_tree.specs.Lookup.{nodes_of}
use Rattle.lus_tree.specs.Tree.{Name, Program}
use Rattle.lus_meaning.specs.Depends.{named_in}
use Rattle.lus_meaning.specs.Program.{instance_of}
use Rattle.lus_meaning.specs.Replay.{ReplaysTrace, Shown}
use Rattle.lus_meaning.specs.Scene.{Instance, component_of, variables}
use Rattle.lus_meaning.specs.TraceView.{Listing}
use Rattle.lus_meaning.specs.Value.{Stream, absent}
use Rattle.lus_streams.specs.Streams.{names_of}
use Rattle.lus_evaluation.specs.Evaluation.{instance_on}
use Rattle.lus_evaluation.specs.Outcome.{StaysWithin}
use Rattle.frame_names.specs.Views.{slot_by}
use Rattle.slot_replay.specs.Shown.{replayed_view}
use Rattle.program_replay.specs.declared.answer.Replay.{Replay as CodeReplay}
pub use Rattle.program_replay.specs.Faults.{IsFault, MeetsPastOf}

-- At which instant each property breaks, how many instants are lawful, and what each name has in the frame at the end of a way of calls, as far as that is
-- known; and the number of the node among nodes and functions.
pub record Answer : Type 0 where
  pub breaks : ℕ → Option ℕ
  pub lawful : ℕ
  pub value : List ℕ → Name → Stream
  pub node : ℕ

-- the value of the slot of a name; none where no slot is known of it
abbrev pub value_of : (List ℕ → Name → Option ℕ) → (ℕ → Stream) → List ℕ → Name → Stream
value_of slot values w x t = option_map_or (λ k. values k t) (slot w x) absent

abbrev pub replay_view : CodeReplay → Answer
replay_view r = record {
  breaks = (replayed_view r.replayed).breaks;
  lawful = (replayed_view r.replayed).lawful;
  value = value_of (slot_by r.frames) (replayed_view r.replayed).value;
  node = r.node;
}

-- both have the same values of the names of the frame at the end of a way of calls
abbrev pub SameValues : Instance → (List ℕ → Name → Stream) → (List ℕ → Name → Stream) → List ℕ → Type 0
SameValues i a b w =
    AllByRecursion (λ v. (u : ℕ) → a w v.name.text u ≡ b w v.name.text u) (variables (component_of (instance_on i w)))

-- The lines of a trace have one frame, whose evaluation stays within 128 bits, and the answer is what that frame shows. Of values it is so of the names of the
-- node itself, and of each frame in which something is evaluated. Of a name that is none of its frame there is no value.
pub record ShowsTrace (p : Program) (t : Listing) (r : Answer) : Type 0 where
  pub shown : Shown
  pub replays : ReplaysTrace p t shown
  pub within : StaysWithin (instance_of p replays.node) replays.replays.frame t.length
  pub node : slice_get (nodes_of p) r.node ≡ Some replays.node
  pub breaks : (k : ℕ) → r.breaks k ≡ shown.breaks k
  pub lawful : r.lawful ≡ shown.lawful
  pub values : SameValues (instance_of p replays.node) r.value shown.value []
  pub frames : AllByRecursion (λ q. SameValues (instance_of p replays.node) r.value shown.value q.way) within.parts
  pub others : (w : List ℕ) (x : Name) → named_in x (names_of (variables (component_of (instance_on (instance_of p replays.node) w)))) ≡ false
      → (u : ℕ) → r.value w x u ≡ absent
