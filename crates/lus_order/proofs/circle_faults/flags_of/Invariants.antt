use Rattle.std.proofs.Common.{◌≡◌, take}
use Rattle.lus_order.specs.Backs.{AreFlagged}
use Rattle.number_graphs.specs.Graphs.{graph_view}
use Rattle.lus_order.specs.Sides.{words_of}
use Rattle.lus_order.proofs.circle_faults.flags_of.Given as goal

abbrev pub invariant-loop-side : goal.invariant-loop-side
invariant-loop-side l = record {
  same : graph_view l.graph ≡ graph_view l.initial.graph;
  flagged : AreFlagged (graph_view l.initial.graph) l.names (words_of (take l.side-index l.sides)) l.flags.items;
}
