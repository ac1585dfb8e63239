-- The system of a declaration that is found by its place among all.
use Rattle.std.specs.Prelude.{ℕ, min, List, [], map, Option, Some, None}
use Rattle.lus_tree.specs.Tree.{Name}
use Rattle.lus_limits.specs.Summaries.{bound}
use Rattle.lus_limits.specs.declared.systems.SystemSize.{SystemSize}
use Rattle.sys_terms.specs.View.{Machine}
use Rattle.sys_tables.specs.Tabled.{Tabled}
use Rattle.sys_frames.specs.Walked.{system_within}

abbrev pub names_in : List Tabled → List Name
names_in ts = map (λ t. t.component.name.text) ts

-- the number that stands for what isn't there
abbrev pub missing_in : Option SystemSize → ℕ
missing_in None = 0
missing_in (Some z) = min bound z.variables

abbrev pub no_machine : Machine
no_machine = record { shapes = []; first = []; here = []; next = []; legal = []; properties = [] }

abbrev pub system_or_none : ℕ → List Tabled → ℕ → Option Tabled → Machine
system_or_none d ts missing None = no_machine
system_or_none d ts missing (Some t) = system_within d ts missing t
