use Rattle.way_laws.proofs.Circles.{circles_are_own, orders_are_own}
use Rattle.way_laws.proofs.Rounds.{names_in_circles}
use Rattle.way_laws.proofs.laws.circles_and_orders.Goals as goal

pub returns-clause-circles : goal.returns-clause-circles
returns-clause-circles c = circles_are_own

pub returns-clause-names : goal.returns-clause-names
returns-clause-names c = names_in_circles

pub returns-clause-orders : goal.returns-clause-orders
returns-clause-orders c = orders_are_own
