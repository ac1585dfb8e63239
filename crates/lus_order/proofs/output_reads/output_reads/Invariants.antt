use Rattle.std.proofs.Common.{map, take}
use Rattle.lus_tree.specs.View.{param_view}
use Rattle.number_graphs.specs.Graphs.{graph_view}
use Rattle.lus_order.specs.MarkedBelow.{AreLed}
use Rattle.lus_order.proofs.output_reads.output_reads.Given as goal

abbrev pub invariant-loop-output : goal.invariant-loop-output
invariant-loop-output l =
    AreLed (graph_view l.graph) l.names l.count (map param_view (take l.output-index l.outputs)) (map (λ r. r.items) l.reads.items)
