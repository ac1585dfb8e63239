use Rattle.lus_evaluation.proofs.OneEvaluation.{one_evaluation}
use Rattle.lus_evaluation.proofs.laws.one_evaluation.Goals as goal

pub returns : goal.returns
returns c = one_evaluation
