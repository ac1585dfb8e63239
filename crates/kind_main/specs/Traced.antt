-- The trace of a replay, and how a replay ends.
use Rattle.std.specs.Prelude.{◌≡◌, ◌≤◌, ℕ, List, length, Some}
use Rattle.kind_io.specs.Counts.{Rose}
use Rattle.kind_io.specs.Told.{Told, MayHold, MayExceed}
use Rattle.lus_tree.specs.Tree.{Program}
use Rattle.lus_tree.specs.declared.place.Pos.{Pos}
use Rattle.lus_meaning.specs.TraceView.{Listing}
use Rattle.lus_meaning.specs.Fits.{misfit, FitsProgram}
use Rattle.trace_text.specs.declared.fault.TraceFault.{TraceFault}
use Rattle.trace_text.specs.declared.fault.TraceFault.TheVariants.{Form, Memory}
use Rattle.trace_text.specs.Traces.{IsTraceText, FirstMisfit}
use Rattle.kind_main.specs.Lines.{Line, too_long_line, formless_line}
use Rattle.kind_main.specs.Report.{IsReplayReport}
use Rattle.kind_main.specs.Fetched.{Tells, limit}
use Rattle.kind_main.specs.Source.{HoldsSource, IsRefusedFile}
use Rattle.kind_main.specs.Ending.{Ending, usage, unread, refused, done}

-- why the bytes of a trace are refused, at their first word or line end that is outside the format, or at their first word that does not fit the program
pub data IsMisfitTrace (bytes : List ℕ) (p : Program) (at : Pos) : Type 0 where
  formless : FirstMisfit bytes at → IsMisfitTrace bytes p at
  unfit : (t : Listing) → IsTraceText bytes t → misfit p t ≡ Some at → IsMisfitTrace bytes p at

-- how a command ends whose trace is not read
abbrev pub EndsAt : TraceFault → Ending → Type 0
EndsAt (Form at) e = e ≡ refused (formless_line at)
EndsAt Memory e = ⊥

-- how a command ends whose trace has bytes outside the format
abbrev pub EndsAtForm : List ℕ → Ending → Type 0
EndsAtForm bytes (refused line) = (at : Pos) × FirstMisfit bytes at × (line ≡ formless_line at)
EndsAtForm bytes usage = ⊥
EndsAtForm bytes (unread name) = ⊥
EndsAtForm bytes (done lines code) = ⊥

-- how a command ends whose trace does not fit the program
abbrev pub EndsAtMisfit : Program → Listing → Ending → Type 0
EndsAtMisfit p t (refused line) = (at : Pos) × (misfit p t ≡ Some at) × (line ≡ formless_line at)
EndsAtMisfit p t usage = ⊥
EndsAtMisfit p t (unread name) = ⊥
EndsAtMisfit p t (done lines code) = ⊥

-- the file holds this trace, which fits the program
pub record HoldsTrace (told : Told) (p : Program) (t : Listing) : Type 0 where
  pub bytes : List ℕ
  pub held : MayHold told bytes
  pub short : length bytes ≤ limit
  pub text : IsTraceText bytes t
  pub fits : FitsProgram p t

-- why a file is refused as a trace of the program, and the line that says so
pub data IsRefusedTrace (told : Told) (p : Program) (line : Line) : Type 0 where
  too_long : MayExceed told limit → line ≡ too_long_line → IsRefusedTrace told p line
  misfit_at : (bytes : List ℕ) (at : Pos) → MayHold told bytes → length bytes ≤ limit → IsMisfitTrace bytes p at → line ≡ formless_line at
      → IsRefusedTrace told p line

-- the files hold a source and a trace, and the lines say what the trace's one frame breaks, or which value is outside 128 bits
pub record IsReplayed (told : Tells) (file trace : List ℕ) (lines : List Line) (code : ℕ) : Type 0 where
  pub program : Program
  pub source : HoldsSource (told file) program
  pub listing : Listing
  pub held : HoldsTrace (told trace) program listing
  pub replay : IsReplayReport program listing lines code

-- A file could not be read: the source or, where that is held, the trace.
pub data IsUnreadOf (told : Tells) (file trace name : List ℕ) : Type 0 where
  unread_source : name ≡ file → IsUnreadOf told file trace name
  unread_trace : (p : Program) → HoldsSource (told file) p → name ≡ trace → IsUnreadOf told file trace name

-- A file is refused: the source or, where that is held, the trace.
pub data IsRefusedOf (told : Tells) (file trace : List ℕ) (line : Line) : Type 0 where
  refused_source : IsRefusedFile (told file) line → IsRefusedOf told file trace line
  refused_trace : (p : Program) → HoldsSource (told file) p → IsRefusedTrace (told trace) p line → IsRefusedOf told file trace line

-- How the replay of a trace on a source ends. The counts are the shelf's faults before the call and now.
abbrev pub EndsReplay : Tells → ℕ → ℕ → List ℕ → List ℕ → Ending → Type 0
EndsReplay told before now file trace usage = ⊥
EndsReplay told before now file trace (unread name) = Rose before now × IsUnreadOf told file trace name
EndsReplay told before now file trace (refused line) = IsRefusedOf told file trace line
EndsReplay told before now file trace (done lines code) = IsReplayed told file trace lines code
