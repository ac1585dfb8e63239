use Rattle.std.specs.Prelude.{◌≡◌, true}
use Rattle.smt_solver.proofs.attempt.bounding.assert_picked.Given as goal

abbrev pub invariant-loop-number : goal.invariant-loop-number
invariant-loop-number l = l.tableau.usable ≡ true
