use Rattle.std.specs.Prelude.{None, take}
use Rattle.smt_solver.specs.Shares.{SharesFitOrPast}
use Rattle.smt_solver.proofs.numbers.sums.atoms_past.Given as goal

abbrev pub invariant-loop-share : goal.invariant-loop-share
invariant-loop-share l = SharesFitOrPast l.atoms l.shares (take l.share-index l.shares) None
