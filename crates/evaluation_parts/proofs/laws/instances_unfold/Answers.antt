use Rattle.evaluation_parts.proofs.Declares.{instances_unfold}
use Rattle.evaluation_parts.proofs.laws.instances_unfold.Goals as goal

pub returns : goal.returns
returns c = instances_unfold
