use Rattle.rule_laws.proofs.Unfolded.{each_unfolded}
use Rattle.rule_laws.proofs.laws.unfolded_instances.Goals as goal

pub returns : goal.returns
returns c = each_unfolded
