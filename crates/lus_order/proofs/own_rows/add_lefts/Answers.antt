use Rattle.std.proofs.Common.{refl, map}
use Rattle.lus_tree.specs.Tree.{text_of}
use Rattle.lus_tree.specs.View.{word_view}
use Rattle.lus_order.specs.Names.{words_view}
use Rattle.lus_order.proofs.Steps.{one_changed}
use Rattle.number_graphs.specs.Graphs.{graph_view}
use Rattle.lus_order.specs.OwnRows.{with_left, with_lefts}
use Rattle.lus_order.proofs.own_rows.add_lefts.Goals as goal

pub loop-word-preserved : goal.loop-word-preserved
loop-word-preserved c =
    one_changed (λ t zs. with_lefts c.args.names.now c.args.to t (map text_of (words_view zs))) (λ t z. with_left c.args.names.now c.args.to t (word_view z.now).text) (λ t z zs. refl) c.args.words.now c.loop-word.word-index c.word-item.result
    (graph_view c.loop-word.graph) (graph_view c.add_left.new.graph) _ c.loop-word-test.true c.word-item.is c.loop-word.invariant (rw c.deref.ensures at c.in_ok-add_left.ensures)
