use Rattle.lus_order.proofs.OwnReads.{reads_own}
use Rattle.lus_order.proofs.laws.reads_are_own.Goals as goal

pub returns : goal.returns
returns c = reads_own
