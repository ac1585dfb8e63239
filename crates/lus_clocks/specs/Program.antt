-- The clocks of the numbered occurrences of a program.
use Rattle.std.specs.Prelude.{◌≡◌, ◌⊎◌, ℕ, List, map, Option, None, get_or}
use Rattle.lus_tree.specs.Tree.{Component, Declaration, declared_constant, declared_node, declared_contract, Program}
use Rattle.lus_tree.specs.Reason.{Refused, memory}
use Rattle.lus_meaning.specs.Scene.{Clock}
use Rattle.lus_meaning.specs.Faults.{IsFirst, fault}
use Rattle.lus_meaning.specs.NameFaults.{start_of_text}
use Rattle.lus_meaning.specs.Refusals.{IsClockFault}
use Rattle.lus_clocks.specs.declared.occurrence.Occurrence.{Occurrence}
use Rattle.lus_clocks.specs.declared.table.Table.{Table}
use Rattle.lus_clocks.specs.Sought.{occurrence_clock}
use Rattle.lus_clocks.specs.Table.{kept}

-- a constant has no occurrence with a clock
abbrev pub declared_clock : Occurrence → Declaration → Option Clock
declared_clock s (declared_constant c) = None
declared_clock s (declared_node n) = occurrence_clock n s
declared_clock s (declared_contract n) = occurrence_clock n s

-- in the declaration of that number, constants included, counted from 0 in text order
abbrev pub program_clock : Program → ℕ → Occurrence → Option Clock
program_clock p d s = get_or (map (declared_clock s) p) d None

-- a table has the clock of each occurrence of a declaration
abbrev pub KeepsOf : Table → Component → Type 0
KeepsOf t n = (s : Occurrence) → kept t s ≡ occurrence_clock n s

abbrev pub Keeps : Table → Declaration → Type 0
Keeps t d = (s : Occurrence) → kept t s ≡ declared_clock s d

-- a table for each declaration
abbrev pub KeepAll : List Table → Program → Type 0
KeepAll ts p = (s : Occurrence) → map (λ t. kept t s) ts ≡ map (declared_clock s) p

-- memory ran out, which is said at 1:1, or it is the first fault of clocks
abbrev pub IsRefusal : Program → Refused → Type 0
IsRefusal p r = (r ≡ fault memory start_of_text) ⊎ IsFirst (IsClockFault p) r
