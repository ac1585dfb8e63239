use Rattle.std.specs.Prelude.{◌≡◌, ◌+◌, ◌-◌, ◌≤◌, List, length}
use Rattle.sat_core.specs.declared.assigned.Assigned.{Assigned}
use Rattle.sat_core.specs.Watching.{IsWatched}
use Rattle.sat_core.specs.Looking.{spent}
use Rattle.sat_core.specs.Charged.{IsKept, IsWorked}
use Rattle.sat_core.specs.Visiting.{IsAdvance}
use Rattle.sat_core.proofs.visiting.propagate.Given as goal

abbrev pub invariant-loop-head : goal.invariant-loop-head
invariant-loop-head l =
    IsWatched l.clauses l.assignment l.watches l.head
    × IsAdvance l.clauses l.fn.assignment l.assignment
    × (l.watches.shorts ≡ l.fn.watches.shorts)
    × (l.fn.head ≤ l.head)
    × IsKept l.fn.assignment l.fn.head l.fn.watches l.watches
    × (l.looks + spent l.clauses l.fn.assignment l.fn.head ≤ l.fn.looks + spent l.clauses l.assignment l.head)
    × (l.fn.looks ≤ l.looks)
    × ((before : List Assigned) → IsWorked l.clauses before l.fn.assignment l.assignment l.fn.watches l.watches l.fn.looks l.looks 0)

abbrev pub decreases-loop-head : goal.decreases-loop-head
decreases-loop-head l = length l.variables - l.head
