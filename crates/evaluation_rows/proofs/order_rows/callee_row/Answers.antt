use Rattle.evaluation_rows.proofs.OrderRows.{call, condact}
use Rattle.evaluation_rows.proofs.order_rows.callee_row.Goals as goal

pub returns-clause-call : goal.returns-clause-call
returns-clause-call c = call

pub returns-clause-condact : goal.returns-clause-condact
returns-clause-condact c = condact
