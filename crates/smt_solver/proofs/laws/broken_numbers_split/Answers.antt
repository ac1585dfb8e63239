use Rattle.smt_solver.proofs.SplitTruth.{split-true}
use Rattle.smt_solver.proofs.laws.broken_numbers_split.Goals as goal

pub returns : goal.returns
returns c = split-true
