use Rattle.way_laws.proofs.Nodes.{names_by_nodes, equations_by_nodes, orders_by_nodes}
use Rattle.way_laws.proofs.laws.names_and_equations.Goals as goal

pub returns-clause-names : goal.returns-clause-names
returns-clause-names c = names_by_nodes

pub returns-clause-equations : goal.returns-clause-equations
returns-clause-equations c = equations_by_nodes

pub returns-clause-orders : goal.returns-clause-orders
returns-clause-orders c = orders_by_nodes
