use Rattle.std.proofs.Common.{◌≡◌, ◌≤◌, ◌-◌, [], length}
use Rattle.lus_meaning.specs.Order.{AreNext, Passes}
use Rattle.number_graphs.specs.Graphs.{graph_view, leads}
use Rattle.number_graphs.specs.Rounds.{ArePassed}
use Rattle.number_graphs.proofs.Rounds.{AreListed}
use Rattle.number_graphs.proofs.least_order.least_order.Given as goal

abbrev pub invariant-loop-done : goal.invariant-loop-done
invariant-loop-done l = record {
  whole : length l.done.items ≡ length (graph_view l.graph);
  listed : AreListed (length (graph_view l.graph)) l.done.items l.order.items;
  passed : ArePassed (graph_view l.graph) l.done.items l.passed.items;
  next : AreNext (length (graph_view l.graph)) (Passes (leads (graph_view l.graph))) [] l.order.items;
  within : length l.order.items ≤ length (graph_view l.graph);
}

abbrev pub decreases-loop-done : goal.decreases-loop-done
decreases-loop-done l = length (graph_view l.graph) - length l.order.items
