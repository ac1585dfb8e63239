use Rattle.std.specs.Prelude.{◌≡◌, take}
use Rattle.smt_solver.specs.Asserting.{bounds_at}
use Rattle.smt_solver.proofs.numbers.asserting.assert_all.Given as goal

abbrev pub invariant-loop-i : goal.invariant-loop-i
invariant-loop-i l = l.tableau ≡ record l.fn.tableau { bounds = bounds_at l.search.trail 1 (take l.i l.meanings) }
