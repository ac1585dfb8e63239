use Rattle.std.proofs.Common.{◌≤◌, ◌-◌}
use Rattle.number_graphs.specs.Graphs.{graph_view}
use Rattle.evaluation_parts.specs.PartViews.{parts_view}
use Rattle.evaluation_order.specs.GiverViews.{AreFound, givers_view}
use Rattle.evaluation_order.proofs.waits.waits_graph.Given as goal

abbrev pub invariant-loop-number : goal.invariant-loop-number
invariant-loop-number l = record {
  from : l.first ≤ l.number;
  found : AreFound (graph_view l.graph) l.first (parts_view l.parts) (givers_view l.givers) (l.number - l.first) (graph_view l.waits);
}
