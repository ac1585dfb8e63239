use Rattle.std.specs.Prelude.{◌≡◌}
use Rattle.sat_core.specs.Looking.{late}
use Rattle.sat_core.specs.Waiting.{IsWatchedBut}
use Rattle.sat_core.specs.Visiting.{IsAdvance}
use Rattle.sat_core.proofs.propagation.imply_all_waiting.Given as goal

abbrev pub invariant-loop-i : goal.invariant-loop-i
invariant-loop-i l =
    IsWatchedBut l.clauses l.assignment l.watches l.head l.waiting l.i
    × IsAdvance l.clauses l.fn.assignment l.assignment
    × (late l.clauses l.fn.assignment l.assignment ≡ late l.clauses l.fn.assignment l.fn.assignment)
