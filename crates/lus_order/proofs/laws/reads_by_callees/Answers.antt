use Rattle.lus_order.proofs.SameReads.{reads_by_callees}
use Rattle.lus_order.proofs.laws.reads_by_callees.Goals as goal

pub returns : goal.returns
returns c = reads_by_callees
