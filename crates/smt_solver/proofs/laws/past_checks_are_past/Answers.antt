use Rattle.smt_solver.proofs.StopTruth.{past-is-past}
use Rattle.smt_solver.proofs.laws.past_checks_are_past.Goals as goal

pub returns : goal.returns
returns c = λ f pairs ms trail t step h past. past-is-past f pairs ms trail t h step past
