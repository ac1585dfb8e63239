use Rattle.smt_solver.proofs.Judged.{met-meets}
use Rattle.smt_solver.proofs.laws.met_values_meet.Goals as goal

pub returns : goal.returns
returns c = met-meets c.evaluation_is_the_truth.ensures
