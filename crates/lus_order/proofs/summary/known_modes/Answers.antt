use Rattle.std.proofs.Common.{◌∙◌, ◌++◌, take}
use Rattle.number_graphs.specs.Graphs.{graph_view}
use Rattle.lus_order.specs.Library.{known_modes, texts_seen}
use Rattle.lus_order.specs.Rows.{modes_view}
use Rattle.lus_order.proofs.Summarised.{known_next}
use Rattle.lus_order.proofs.summary.known_modes.Goals as goal

pub loop-mode-preserved : goal.loop-mode-preserved
loop-mode-preserved c = record {
  same = c.in_ok-push_known.ensures.same ∙ c.loop-mode.invariant.same;
  known = known_next (graph_view c.loop-mode.graph) (graph_view c.args.graph.now) c.args.names.now (texts_seen c.args.inputs.now ++ texts_seen c.args.outputs.now)
      c.args.modes.now c.loop-mode.mode-index c.mode-item.result (known_modes c.loop-mode.known.items) (known_modes c.push_known.new.known.items)
      c.loop-mode-test.true c.mode-item.is c.loop-mode.invariant.same c.loop-mode.invariant.known
      (c.in_ok-push_known.ensures.known (modes_view (take c.loop-mode.mode-index c.args.modes.now)));
}
