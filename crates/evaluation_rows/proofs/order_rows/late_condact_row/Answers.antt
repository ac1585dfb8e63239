use Rattle.evaluation_rows.proofs.OrderRows.{late_condition}
use Rattle.evaluation_rows.proofs.order_rows.late_condact_row.Goals as goal

pub returns : goal.returns
returns c = late_condition
