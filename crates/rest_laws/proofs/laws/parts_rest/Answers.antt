use Rattle.rest_laws.proofs.Law.{each_evaluation_rests}
use Rattle.rest_laws.proofs.laws.parts_rest.Goals as goal

pub returns : goal.returns
returns c = each_evaluation_rests
