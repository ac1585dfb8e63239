use Rattle.std.specs.Prelude.{◌≡◌, take}
use Rattle.line_laws.specs.PastSteps.{sum_in, SumFits}
use Rattle.smt_solver.proofs.numbers.sums.sum_past.Given as goal

abbrev pub invariant-loop-i : goal.invariant-loop-i
invariant-loop-i l = (l.sum ≡ sum_in (take l.i l.products)) × SumFits (take l.i l.products)
