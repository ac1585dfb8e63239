use Rattle.depth_laws.proofs.Causes.{bounded-depth}
use Rattle.depth_laws.proofs.laws.depth_of_bounded.Goals as goal

pub returns : goal.returns
returns c = bounded-depth c.facts_hold.ensures c.facts_are_true.ensures
