use Rattle.std.specs.Prelude.{None, take}
use Rattle.smt_solver.specs.Shares.{AllFitOrPast}
use Rattle.smt_solver.proofs.numbers.sums.terms_past.Given as goal

abbrev pub invariant-loop-x : goal.invariant-loop-x
invariant-loop-x l = AllFitOrPast l.atoms l.shares (take l.x-index l.terms) None
