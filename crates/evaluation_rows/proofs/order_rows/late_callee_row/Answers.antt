use Rattle.evaluation_rows.proofs.OrderRows.{late_callee}
use Rattle.evaluation_rows.proofs.order_rows.late_callee_row.Goals as goal

pub returns : goal.returns
returns c = late_callee
