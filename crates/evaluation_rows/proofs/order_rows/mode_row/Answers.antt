use Rattle.evaluation_rows.proofs.OrderRows.{by_mode}
use Rattle.evaluation_rows.proofs.order_rows.mode_row.Goals as goal

pub returns : goal.returns
returns c = by_mode
