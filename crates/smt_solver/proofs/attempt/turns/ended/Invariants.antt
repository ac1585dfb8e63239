use Rattle.std.specs.Prelude.{◌≡◌, true}
use Rattle.smt_solver.proofs.attempt.turns.ended.Given as goal

abbrev pub invariant-loop-turn : goal.invariant-loop-turn
invariant-loop-turn l = l.work.tableau.usable ≡ true
