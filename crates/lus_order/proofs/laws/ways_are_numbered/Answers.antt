use Rattle.lus_order.proofs.Numbered.{ways_numbered}
use Rattle.lus_order.proofs.laws.ways_are_numbered.Goals as goal

pub returns : goal.returns
returns c = ways_numbered
