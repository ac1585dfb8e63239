-- The source of a command.
use Rattle.std.specs.Prelude.{◌≡◌, ◌⊎◌, ◌≤◌, ℕ, List, length, None}
use Rattle.kind_io.specs.Told.{Told, MayHold, MayExceed}
use Rattle.lus_tree.specs.Tree.{Program}
use Rattle.lus_tree.specs.Reason.{Refused, memory}
use Rattle.lus_meaning.specs.Refusals.{IsChecked, IsWithinLimits, IsRefusedFor}
use Rattle.lus_grammar.specs.Source.{IsSource, IsRefused as IsMisread}
use Rattle.kind_main.specs.Lines.{Line, too_long_line, refused_line}
use Rattle.kind_main.specs.Fetched.{limit}
use Rattle.kind_main.specs.Ending.{Ending, usage, unread, refused, done}

-- the bytes are a source, and its tree breaks a rule: this is the first fault of the earliest phase that has one
pub record IsRuledOut (bytes : List ℕ) (r : Refused) : Type 0 where
  pub tree : Program
  pub source : IsSource bytes tree
  pub broken : IsRefusedFor tree None r

-- it breaks no rule, and passes no limit
pub record FollowsAll (p : Program) : Type 0 where
  pub rules : IsChecked p
  pub limits : IsWithinLimits p None

-- why a tree is refused by the rules, or memory ran out
abbrev pub IsRuling : Program → Refused → Type 0
IsRuling p r = (r.reason ≡ memory) ⊎ IsRefusedFor p None r

-- why the bytes of a source are refused, and the line that says so: their tokens or their grammar have a first fault, or they
-- break a rule
pub data IsRefusedSource (bytes : List ℕ) (line : Line) : Type 0 where
  misread : (r : Refused) → IsMisread bytes r → line ≡ refused_line r → IsRefusedSource bytes line
  ruled_out : (r : Refused) → IsRuledOut bytes r → line ≡ refused_line r → IsRefusedSource bytes line

-- how a command ends whose source is refused
abbrev pub EndsAtSource : List ℕ → Ending → Type 0
EndsAtSource bytes (refused line) = IsRefusedSource bytes line
EndsAtSource bytes usage = ⊥
EndsAtSource bytes (unread name) = ⊥
EndsAtSource bytes (done lines code) = ⊥

-- the file holds a source that follows all rules and limits
pub record HoldsSource (told : Told) (p : Program) : Type 0 where
  pub bytes : List ℕ
  pub held : MayHold told bytes
  pub short : length bytes ≤ limit
  pub source : IsSource bytes p
  pub right : FollowsAll p

-- why a file is refused as a source, and the line that says so
pub data IsRefusedFile (told : Told) (line : Line) : Type 0 where
  too_long : MayExceed told limit → line ≡ too_long_line → IsRefusedFile told line
  refused_bytes : (bytes : List ℕ) → MayHold told bytes → length bytes ≤ limit → IsRefusedSource bytes line → IsRefusedFile told line
