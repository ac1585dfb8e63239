-- A chair as clauses see it.
use Rattle.std.specs.Prelude.{ℕ, List, [], ◌∷◌}
use Rattle.std.specs.Borrow.{GName}
use Rattle.sys_terms.specs.View.{Machine}
use Rattle.board_core.specs.declared.plan.Plan.{Plan}
use Rattle.board_core.specs.declared.chair.Chair.{Chair}
use Rattle.board_core.specs.Entries.{Posting}
use Rattle.board_core.specs.Books.{history_of, machine_of, plan_of}

abbrev pub chair_number : Chair → ℕ
chair_number c = c.number

abbrev pub chair_front : Chair → ℕ
chair_front c = c.front

abbrev pub chair_reads : Chair → ℕ
chair_reads c = c.reads

abbrev pub chair_history : Chair → List Posting
chair_history c = history_of c.book.now

abbrev pub chair_machine : Chair → Machine
chair_machine c = machine_of c.book.now

abbrev pub chair_plan : Chair → Plan
chair_plan c = plan_of c.book.now

-- the one reference that it holds
abbrev pub chair_lent : Chair → List GName
chair_lent c = c.book.ghost_name ∷ []
