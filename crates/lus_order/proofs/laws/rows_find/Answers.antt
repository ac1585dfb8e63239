use Rattle.lus_order.proofs.FoundNodes.{rows_find}
use Rattle.lus_order.proofs.laws.rows_find.Goals as goal

pub returns : goal.returns
returns c = rows_find
