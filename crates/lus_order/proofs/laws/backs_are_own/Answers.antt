use Rattle.lus_order.proofs.BackNames.{backs_own}
use Rattle.lus_order.proofs.laws.backs_are_own.Goals as goal

pub returns : goal.returns
returns c = backs_own
