use Rattle.order_laws.proofs.OwnPast.{rows_have_own_past}
use Rattle.order_laws.proofs.laws.own_past_by_rows.Goals as goal

pub returns : goal.returns
returns c = rows_have_own_past
