use Rattle.smt_solver.proofs.StopTruth.{long-is-long}
use Rattle.smt_solver.proofs.laws.long_checks_are_long.Goals as goal

pub returns : goal.returns
returns c = λ f pairs ms trail t budget h long. long-is-long f pairs ms trail t h budget long
