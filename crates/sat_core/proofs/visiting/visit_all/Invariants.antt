use Rattle.std.specs.Prelude.{◌≡◌, ◌+◌, ◌-◌, ◌≤◌, List, length}
use Rattle.sat_core.specs.declared.assigned.Assigned.{Assigned}
use Rattle.sat_core.specs.Watching.{list_at, IsVisiting}
use Rattle.sat_core.specs.Charged.{due, IsKept, IsWorked}
use Rattle.sat_core.specs.Visiting.{IsAdvance}
use Rattle.sat_core.proofs.visiting.visit_all.Given as goal

abbrev pub invariant-loop-at : goal.invariant-loop-at
invariant-loop-at l =
    IsVisiting l.clauses l.assignment l.watches l.head l.literal l.at
    × IsAdvance l.clauses l.fn.assignment l.assignment
    × (l.watches.shorts ≡ l.fn.watches.shorts)
    × IsKept l.fn.assignment l.head l.fn.watches l.watches
    × (l.looks + due l.assignment l.watches l.literal ≤ l.fn.looks + due l.fn.assignment l.fn.watches l.literal)
    × (l.fn.looks ≤ l.looks)
    × ((before : List Assigned) → IsWorked l.clauses before l.fn.assignment l.assignment l.fn.watches l.watches l.fn.looks l.looks 0)

abbrev pub decreases-loop-at : goal.decreases-loop-at
decreases-loop-at l = length (list_at l.watches l.literal) - l.at
