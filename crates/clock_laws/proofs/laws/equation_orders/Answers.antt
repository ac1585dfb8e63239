use Rattle.clock_laws.proofs.OrderLaws.{order_or_circle, one_order}
use Rattle.clock_laws.proofs.laws.equation_orders.Goals as goal

pub returns-clause-exists : goal.returns-clause-exists
returns-clause-exists c = order_or_circle

pub returns-clause-least : goal.returns-clause-least
returns-clause-least c = one_order
