use Rattle.lus_limits.proofs.Instances.{made_of_callees}
use Rattle.lus_limits.proofs.laws.made_of_callees.Goals as goal

pub returns : goal.returns
returns c = made_of_callees
