use Rattle.std.proofs.Common.{◌≡◌, ◌++◌, drop, map}
use Rattle.lus_tree.specs.Tree.{text_of}
use Rattle.lus_order.specs.Backs.{rows_of}
use Rattle.number_graphs.specs.Graphs.{graph_view}
use Rattle.lus_order.specs.Names.{words_view}
use Rattle.lus_order.proofs.circle_faults.rows_of.Given as goal

abbrev pub invariant-loop-word : goal.invariant-loop-word
invariant-loop-word l = l.row.items ++ rows_of (graph_view l.graph) l.names (map text_of (words_view (drop l.word-index l.words)))
    ≡ rows_of (graph_view l.graph) l.names (map text_of (words_view l.words))
