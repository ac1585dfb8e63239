-- The least order by the rows of an own graph is that of the equations.
use Rattle.std.proofs.Common.{◌≡◌, ◌↔◌, ℕ, ◌+◌, ◌-◌, length, subst, sym, arith}
use Rattle.lus_meaning.specs.Order.{IsLeastOrder}
use Rattle.lus_meaning.specs.Run.{equations}
use Rattle.way_laws.specs.Nodes.{of_equation, NodeLeads}
use Rattle.way_laws.proofs.Nodes.{orders_by_nodes}
use Rattle.way_laws.proofs.Orders.{same_orders}
use Rattle.number_graphs.specs.Graphs.{LeadsFrom}
use Rattle.lus_order.specs.OwnNodes.{node_at}
use Rattle.lus_order.specs.OwnOrders.{OrdersAreLeast}
use Rattle.lus_order.proofs.OwnNodes.{of_sum}

pub orders_least : OrdersAreLeast
orders_least p grammatical typed n d g exact e names rows nodes ks o =
    (orders_by_nodes p grammatical typed n d g exact e ks).1
    ((same_orders (length (equations n)) Nodes (LeadsFrom rows (length names)) same ks).1.0
    (subst (λ c. IsLeastOrder c (LeadsFrom rows (length names)) ks) count o))
  where
    Nodes : ℕ → ℕ → Type 0
    Nodes k j = NodeLeads n g (of_equation k) (of_equation j)

    count : length rows - length names ≡ length (equations n)
    count = omega (arith, nodes.whole)

    same : (k j : ℕ) → NodeLeads n g (of_equation k) (of_equation j) ↔ LeadsFrom rows (length names) k j
    same k j = (
      λ w. (nodes.ways (length names + k) (length names + j)).1
          (subst (λ a. NodeLeads n g a (node_at names (length names + j))) (sym (of_sum names k))
          (subst (NodeLeads n g (of_equation k)) (sym (of_sum names j)) w)),
      λ w. subst (λ a. NodeLeads n g a (of_equation j)) (of_sum names k)
          (subst (NodeLeads n g (node_at names (length names + k))) (of_sum names j) ((nodes.ways (length names + k) (length names + j)).0 w)),
    )
