-- How a command ends, where memory is found.
use Rattle.std.specs.Prelude.{◌≡◌, ℕ, List, [], ◌∷◌, map, Result, Ok, Err, Option, Some, None, IfSome}
use Rattle.std.specs.declared.vec.Vec.{Vec}
use Rattle.std.specs.declared.alloc.Global.{Global}
use Rattle.std.specs.String.{string_bytes}
use Rattle.kind_main.specs.declared.ending.Report.{Report}
use Rattle.kind_main.specs.declared.ending.Stopped.{Stopped}
use Rattle.kind_main.specs.declared.ending.Stopped.TheVariants.{Usage, Unread, Refused, Memory}
use Rattle.kind_main.specs.Lines.{Line, usage_line, read_fault_line}

-- the words are of no form that is built; the file of this name could not be read; this line says what is refused; or the command was carried out, with these lines and this status
pub data Ending : Type 0 where
  usage : Ending
  unread : List ℕ → Ending
  refused : Line → Ending
  done : List Line → ℕ → Ending

-- what is printed
abbrev pub lines_of : Ending → List Line
lines_of usage = usage_line ∷ []
lines_of (unread name) = read_fault_line name ∷ []
lines_of (refused line) = line ∷ []
lines_of (done lines code) = lines

abbrev pub status_of : Ending → ℕ
status_of usage = 2
status_of (unread name) = 5
status_of (refused line) = 3
status_of (done lines code) = code

-- lines without where they lie in memory
abbrev pub line_bytes : Vec ℕ Global → Line
line_bytes l = l.items

abbrev pub lines_view : List (Vec ℕ Global) → List Line
lines_view = map line_bytes

-- the ending that a stop is; want of memory is none
abbrev pub stop_of : Stopped → Option Ending
stop_of Usage = Some usage
stop_of (Unread name) = Some (unread (string_bytes name))
stop_of (Refused line) = Some (refused (string_bytes line))
stop_of Memory = None

abbrev pub ending_of : Result Report Stopped → Option Ending
ending_of (Ok r) = Some (done (lines_view r.lines.items) r.status.code)
ending_of (Err s) = stop_of s

abbrev pub IfStopped : (Ending → Type 0) → Stopped → Type 0
IfStopped P s = IfSome (stop_of s) P

abbrev pub IfEnded : (Ending → Type 0) → Result Report Stopped → Type 0
IfEnded P r = IfSome (ending_of r) P

-- these lines and this status are those of the ending
pub record Shows (lines : List Line) (code : ℕ) (e : Ending) : Type 0 where
  pub printed : lines ≡ lines_of e
  pub status : code ≡ status_of e
