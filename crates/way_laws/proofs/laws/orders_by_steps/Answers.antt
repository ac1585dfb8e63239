use Rattle.way_laws.proofs.Orders.{orders_by_steps}
use Rattle.way_laws.proofs.laws.orders_by_steps.Goals as goal

pub returns : goal.returns
returns c = orders_by_steps
