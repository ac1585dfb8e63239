-- A book as clauses see it: a system, a plan and entries by their places.
use Rattle.std.specs.Prelude.{List, map, All}
use Rattle.sys_terms.specs.declared.term.System.{System}
use Rattle.sys_terms.specs.View.{Machine, system_view}
use Rattle.sys_terms.specs.Fits.{IsMild}
use Rattle.board_core.specs.declared.plan.Plan.{Plan}
use Rattle.board_core.specs.declared.posted.Posted.{Posted}
use Rattle.board_core.specs.Plans.{IsPlan}
use Rattle.board_core.specs.Entries.{Posting, AreSound}
use Rattle.board_core.specs.View.{made_view, IsMadeFor}

abbrev pub Contents : Type 0
Contents = System × Plan × List Posted

abbrev pub posted_view : Posted → Posting
posted_view p = record { seat = p.seat; says = made_view p.made }

abbrev pub history_in : List Posted → List Posting
history_in = map posted_view

abbrev pub history_of : Contents → List Posting
history_of b = history_in b.2

abbrev pub machine_of : Contents → Machine
machine_of b = system_view b.0

abbrev pub plan_of : Contents → Plan
plan_of b = b.1

-- each entry is true after those before it, and its fact is of the book's system, which is mild; the
-- plan is within its ranges
pub record IsBook (b : Contents) : Type 0 where
  pub mild : IsMild (machine_of b)
  pub plan : IsPlan (plan_of b)
  pub sound : AreSound (machine_of b) (plan_of b) (history_of b)
  pub of_system : All (λ (p : Posted). IsMadeFor (machine_of b) p.made) b.2
