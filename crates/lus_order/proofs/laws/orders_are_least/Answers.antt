use Rattle.lus_order.proofs.OwnOrders.{orders_least}
use Rattle.lus_order.proofs.laws.orders_are_least.Goals as goal

pub returns : goal.returns
returns c = orders_least
