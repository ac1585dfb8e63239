-- What a replay prints.
use Rattle.std.specs.Prelude.{◌≡◌, ◌++◌, ℕ, suc, List, [], ◌∷◌, map, Option, Some, None}
use Rattle.kind_num.specs.declared.Past.{Past}
use Rattle.lus_tree.specs.Tree.{Component, Program}
use Rattle.lus_tree.specs.Lookup.{nodes_of}
use Rattle.lus_tree.specs.declared.place.Pos.{Pos}
use Rattle.lus_meaning.specs.Contract.{Property}
use Rattle.lus_meaning.specs.Fits.{first_named}
use Rattle.lus_meaning.specs.Frame.{Frame}
use Rattle.lus_meaning.specs.Label.{label_of}
use Rattle.lus_meaning.specs.Program.{instance_of}
use Rattle.lus_meaning.specs.Property.{properties}
use Rattle.lus_meaning.specs.Replay.{Shown, ReplaysTrace}
use Rattle.lus_meaning.specs.Trace.{IsFrameOf}
use Rattle.lus_meaning.specs.TraceView.{Listing, lines_of}
use Rattle.lus_evaluation.specs.Outcome.{StaysWithin, MeetsPast}
use Rattle.kind_main.specs.Lines.{Line, breaks_line, lawful_line, past_line}

-- the line of a property with this label that breaks at an instant
abbrev pub said : List ℕ → Option ℕ → List Line
said label None = []
said label (Some t) = breaks_line label t ∷ []

-- the lines of the properties from this number on, in their order
abbrev pub report_from : ℕ → List (List ℕ) → (ℕ → Option ℕ) → List Line
report_from k [] hits = []
report_from k (l ∷ ls) hits = said l (hits k) ++ report_from (suc k) ls hits

-- 10 where no property breaks, else 1
abbrev pub code_of : List Line → ℕ
code_of [] = 10
code_of (_ ∷ _) = 1

-- The trace has one frame, whose evaluation stays within 128 bits, and the lines say what it breaks: each property that breaks has its line, and the last line
-- says how many instants are lawful.
pub record IsReplay (p : Program) (t : Listing) (lines : List Line) (code : ℕ) : Type 0 where
  pub shown : Shown
  pub replays : ReplaysTrace p t shown
  pub within : StaysWithin (instance_of p replays.node) replays.replays.frame t.length
  pub broken : List Line
  pub reported : broken ≡ report_from 0 (map label_of (properties (instance_of p replays.node))) shown.breaks
  pub printed : lines ≡ broken ++ lawful_line shown.lawful t.length ∷ []
  pub status : code ≡ code_of broken

-- The trace has one frame, and the line says which value is the first outside 128 bits, if that is evaluated.
pub record IsPastReplay (p : Program) (t : Listing) (lines : List Line) (code : ℕ) : Type 0 where
  pub node : Component
  pub named : first_named t.node (nodes_of p) ≡ Some node
  pub frame : Frame
  pub is_frame : IsFrameOf (lines_of t) (instance_of p node) t.length frame
  pub only : (other : Frame) → IsFrameOf (lines_of t) (instance_of p node) t.length other → other ≡ frame
  pub at : Pos
  pub instant : ℕ
  pub past : Past
  pub meets : MeetsPast (instance_of p node) frame t.length at instant past
  pub printed : lines ≡ past_line at instant past ∷ []
  pub status : code ≡ 9

-- what is printed of the replay of a trace
pub data IsReplayReport (p : Program) (t : Listing) (lines : List Line) (code : ℕ) : Type 0 where
  stays : IsReplay p t lines code → IsReplayReport p t lines code
  passes : IsPastReplay p t lines code → IsReplayReport p t lines code
