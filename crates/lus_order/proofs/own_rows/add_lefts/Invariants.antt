use Rattle.std.proofs.Common.{◌≡◌, drop, map}
use Rattle.lus_tree.specs.Tree.{text_of}
use Rattle.number_graphs.specs.Graphs.{graph_view}
use Rattle.lus_order.specs.Names.{words_view}
use Rattle.lus_order.specs.OwnRows.{with_lefts}
use Rattle.lus_order.proofs.own_rows.add_lefts.Given as goal

abbrev pub invariant-loop-word : goal.invariant-loop-word
invariant-loop-word l = with_lefts l.names l.to (graph_view l.graph) (map text_of (words_view (drop l.word-index l.words)))
    ≡ with_lefts l.names l.to (graph_view l.initial.graph) (map text_of (words_view l.words))
