use Rattle.std.proofs.Common.{◌≡◌, ◌++◌, take}
use Rattle.number_graphs.specs.Graphs.{graph_view}
use Rattle.lus_order.specs.KnownModes.{AreKnown}
use Rattle.lus_order.specs.Library.{known_modes, texts_seen}
use Rattle.lus_order.specs.Rows.{modes_view}
use Rattle.lus_order.proofs.summary.known_modes.Given as goal

abbrev pub invariant-loop-mode : goal.invariant-loop-mode
invariant-loop-mode l = record {
  same : graph_view l.graph ≡ graph_view l.initial.graph;
  known : AreKnown (graph_view l.initial.graph) l.names (texts_seen l.inputs ++ texts_seen l.outputs) (modes_view (take l.mode-index l.modes))
      (known_modes l.known.items);
}
