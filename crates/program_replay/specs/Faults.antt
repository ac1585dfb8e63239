-- Why there is no answer.
use Rattle.std.specs.Prelude.{◌≡◌, ℕ, Some}
use Rattle.kind_num.specs.declared.Past.{Past}
use Rattle.lus_tree.specs.declared.place.Pos.{Pos}
use Rattle.lus_tree.specs.Lookup.{nodes_of}
use Rattle.lus_tree.specs.Tree.{Component, Program}
use Rattle.lus_meaning.specs.Fits.{FitsProgram, first_named, misfit}
use Rattle.lus_meaning.specs.Frame.{Frame}
use Rattle.lus_meaning.specs.Program.{instance_of}
use Rattle.lus_meaning.specs.Trace.{IsFrameOf}
use Rattle.lus_meaning.specs.TraceView.{Listing, lines_of}
use Rattle.lus_evaluation.specs.Outcome.{MeetsPast}
use Rattle.program_replay.specs.declared.fault.ReplayFault.{ReplayFault}
use Rattle.program_replay.specs.declared.fault.ReplayFault.TheVariants as faults

-- The lines of a trace have one frame, and this is the first value outside 128 bits that its evaluation meets.
pub record MeetsPastOf (p : Program) (t : Listing) (at : Pos) (instant : ℕ) (past : Past) : Type 0 where
  pub node : Component
  pub named : first_named t.node (nodes_of p) ≡ Some node
  pub frame : Frame
  pub is_frame : IsFrameOf (lines_of t) (instance_of p node) t.length frame
  pub only : (other : Frame) → IsFrameOf (lines_of t) (instance_of p node) t.length other → other ≡ frame
  pub meets : MeetsPast (instance_of p node) frame t.length at instant past

-- the first word that doesn't fit; or the trace fits, and a value is outside; or memory ran out
abbrev pub IsFault : Program → Listing → ReplayFault → Type 0
IsFault p t (faults.Form at) = misfit p t ≡ Some at
IsFault p t (faults.Past at instant past) = FitsProgram p t × MeetsPastOf p t at instant past
IsFault p t faults.Memory = Unit {0}
