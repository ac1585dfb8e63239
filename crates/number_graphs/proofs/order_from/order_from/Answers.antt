use Rattle.std.proofs.Common.{◌-◌, length, subst, sym, ◌∙◌, ap}
use Rattle.lus_meaning.specs.Order.{IsLeastOrder}
use Rattle.number_graphs.specs.Graphs.{LeadsFrom, from_on, graph_view}
use Rattle.number_graphs.proofs.Contracted.{circle_of_stuck, least_from}
use Rattle.number_graphs.proofs.order_from.order_from.Goals as goal

pub returns-in_ok-numbers_from-in-Some : goal.returns-in_ok-numbers_from-in-Some
returns-in_ok-numbers_from-in-Some c =
    subst (IsLeastOrder (length (graph_view c.args.graph.now) - c.args.start) (LeadsFrom (graph_view c.args.graph.now) c.args.start))
    (sym (c.in_ok-numbers_from-in-Some.ensures ∙ ap (from_on c.args.start) c.deref.ensures.value))
    (least_from (graph_view c.args.graph.now) c.args.start c.in-Some.order.items (rw c.in-Some.is at c.in_ok-order.ensures))

pub returns-in-None : goal.returns-in-None
returns-in-None c =
    let s = rw c.in-None.is at c.in_ok-order.ensures in circle_of_stuck (graph_view c.args.graph.now) s.0 s.1
