use Rattle.evaluation_rows.proofs.OrderRows.{operands}
use Rattle.evaluation_rows.proofs.order_rows.operands_row.Goals as goal

pub returns : goal.returns
returns c = operands
