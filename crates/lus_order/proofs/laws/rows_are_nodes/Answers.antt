use Rattle.lus_order.proofs.OwnNodes.{rows_nodes}
use Rattle.lus_order.proofs.laws.rows_are_nodes.Goals as goal

pub returns : goal.returns
returns c = rows_nodes
