use Rattle.smt_solver.proofs.StopTruth.{kept}
use Rattle.smt_solver.proofs.laws.checks_keep_tableaus.Goals as goal

pub returns : goal.returns
returns c = λ f pairs ms trail t u budget h k sound. kept f pairs ms trail t h u budget k sound
