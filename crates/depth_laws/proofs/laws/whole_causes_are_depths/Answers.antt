use Rattle.depth_laws.proofs.Causes.{whole-depth}
use Rattle.depth_laws.proofs.laws.whole_causes_are_depths.Goals as goal

pub returns : goal.returns
returns c = whole-depth
