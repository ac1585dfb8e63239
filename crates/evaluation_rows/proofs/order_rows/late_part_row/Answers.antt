use Rattle.evaluation_rows.proofs.OrderRows.{late}
use Rattle.evaluation_rows.proofs.order_rows.late_part_row.Goals as goal

pub returns : goal.returns
returns c = late
