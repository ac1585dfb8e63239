use Rattle.evaluation_rows.proofs.OrderRows.{imported}
use Rattle.evaluation_rows.proofs.order_rows.import_row.Goals as goal

pub returns : goal.returns
returns c = imported
