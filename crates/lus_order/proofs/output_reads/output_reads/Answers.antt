use Rattle.std.proofs.Common.{◌∷◌, ◌++◌, [], map, take, sym, subst, ap, ◌∙◌}
use Rattle.lus_tree.specs.View.{param_view}
use Rattle.lus_meaning.proofs.Lists.{map_append}
use Rattle.number_graphs.specs.Graphs.{graph_view}
use Rattle.lus_order.specs.MarkedBelow.{AreLed, IsLedBelow}
use Rattle.lus_order.proofs.MarkedBelow.{led_more}
use Rattle.lus_order.proofs.Turns.{one_more}
use Rattle.lus_order.proofs.output_reads.output_reads.Goals as goal

pub loop-output-preserved : goal.loop-output-preserved
loop-output-preserved c =
    subst (λ os. AreLed (graph_view c.args.graph.now) c.args.names.now c.args.count os (map (λ r. r.items) c.push.new.self.items))
    (sym (one_more param_view c.args.outputs.now c.loop-output.output-index c.output-item.result c.loop-output-test.true c.output-item.is))
    (subst (AreLed (graph_view c.args.graph.now) c.args.names.now c.args.count
    (map param_view (take c.loop-output.output-index c.args.outputs.now) ++ param_view c.output-item.result ∷ []))
    (sym (ap (map (λ r. r.items)) c.in_ok-push.ensures.items ∙ map_append (λ r. r.items) c.loop-output.reads.items (c.in_ok-read.read ∷ [])))
    (led_more (graph_view c.args.graph.now) c.args.names.now c.args.count (map param_view (take c.loop-output.output-index c.args.outputs.now))
    (map (λ r. r.items) c.loop-output.reads.items) (param_view c.output-item.result) c.in_ok-read.read.items c.loop-output.invariant
    (subst (λ z. IsLedBelow (graph_view c.args.graph.now) c.args.names.now c.args.count z c.in_ok-read.read.items) c.deref.ensures c.in_ok-read.ensures)))
