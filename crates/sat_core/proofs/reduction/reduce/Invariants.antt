use Rattle.std.specs.Prelude.{◌≤◌, length, reverse}
use Rattle.proof_steps.specs.declared.Literal.{Literal}
use Rattle.sat_core.specs.Reduction.{IsReduced}
use Rattle.sat_core.specs.Looking.{IsPinned}
use Rattle.sat_core.proofs.reduction.reduce.Given as goal

abbrev pub invariant-loop-i : goal.invariant-loop-i
invariant-loop-i l =
    (l.i ≤ l.from)
    × ((last : Literal)
    → IsReduced l.clauses l.trail l.marked l.from last l.fn.literals.items 0 l.from (reverse l.fn.hints.items)
    → IsReduced l.clauses l.trail l.marked l.from last l.literals.items l.low l.i (reverse l.hints.items))
    × IsPinned l.fn.looks l.looks (length l.fn.hints.items) (length l.hints.items)
    (length l.fn.literals.items) (length l.literals.items)

abbrev pub decreases-loop-i : goal.decreases-loop-i
decreases-loop-i l = l.i
