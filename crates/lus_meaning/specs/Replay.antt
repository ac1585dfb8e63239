-- What the replay of a trace shows.
use Rattle.std.specs.Prelude.{◌≡◌, ℕ, zero, suc, List, [], ◌∷◌, Option, Some}
use Rattle.lus_tree.specs.Tree.{Name, Component, Program}
use Rattle.lus_tree.specs.Lookup.{nodes_of}
use Rattle.lus_meaning.specs.Value.{Stream}
use Rattle.lus_meaning.specs.Frame.{Frame, empty_frame, calls_in, frame_at, entry}
use Rattle.lus_meaning.specs.Scene.{Instance}
use Rattle.lus_meaning.specs.Program.{instance_of}
use Rattle.lus_meaning.specs.Trace.{BareLine, IsFrameOf}
use Rattle.lus_meaning.specs.TraceView.{Listing, lines_of}
use Rattle.lus_meaning.specs.Fits.{first_named}
use Rattle.lus_meaning.specs.FirstBreak.{AreBreaks, AreLawful}

-- the frame to which the calls on the way lead; an empty one where there is no such call
abbrev pub frame_on : Frame → List ℕ → Frame
frame_on f [] = f
frame_on f (zero ∷ ks) = empty_frame
frame_on f (suc k ∷ ks) = frame_on (frame_at (calls_in f) k) ks

-- at which instant each property breaks, how many instants are lawful, and what each name has in the frame on a way of calls
pub record Shown : Type 0 where
  pub breaks : ℕ → Option ℕ
  pub lawful : ℕ
  pub value : List ℕ → Name → Stream

-- the lines have one frame of n instants, and this is what it shows
pub record Replays (i : Instance) (ls : List BareLine) (n : ℕ) (s : Shown) : Type 0 where
  pub frame : Frame
  pub is_frame : IsFrameOf ls i n frame
  pub only : (other : Frame) → IsFrameOf ls i n other → other ≡ frame
  pub breaks : AreBreaks i frame n s.breaks
  pub lawful : AreLawful i frame n s.lawful
  pub values : (path : List ℕ) (x : Name) (t : ℕ) → s.value path x t ≡ entry (frame_on frame path) x t

-- the same of a trace of a program
pub record ReplaysTrace (p : Program) (t : Listing) (s : Shown) : Type 0 where
  pub node : Component
  pub named : first_named t.node (nodes_of p) ≡ Some node
  pub replays : Replays (instance_of p node) (lines_of t) t.length s
