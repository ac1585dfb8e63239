use Rattle.evaluation_rows.proofs.OrderRows.{conditions}
use Rattle.evaluation_rows.proofs.order_rows.conditions_row.Goals as goal

pub returns : goal.returns
returns c = conditions
