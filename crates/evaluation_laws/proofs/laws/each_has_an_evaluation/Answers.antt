use Rattle.evaluation_laws.proofs.Evaluations.{each_has_one_evaluation}
use Rattle.evaluation_laws.proofs.laws.each_has_an_evaluation.Goals as goal

pub returns : goal.returns
returns c = each_has_one_evaluation
