use Rattle.meaning_rows.proofs.EquationOrders.{apart_order, apart_turned, apart_not_least}
use Rattle.meaning_rows.proofs.need_rows.least_order_row.Goals as goal

pub returns-clause-least : goal.returns-clause-least
returns-clause-least c = apart_order

pub returns-clause-order : goal.returns-clause-order
returns-clause-order c = apart_turned

pub returns-clause-not_least : goal.returns-clause-not_least
returns-clause-not_least c = apart_not_least
