use Rattle.std.proofs.Common.{refl, map}
use Rattle.lus_tree.specs.Tree.{text_of}
use Rattle.lus_tree.specs.View.{word_view}
use Rattle.lus_order.specs.Names.{words_view}
use Rattle.lus_order.proofs.Steps.{one_changed}
use Rattle.name_table.specs.Names.{add}
use Rattle.lus_order.specs.Streams.{with_all}
use Rattle.lus_order.proofs.clock_circles.add_words.Goals as goal

pub loop-word-preserved : goal.loop-word-preserved
loop-word-preserved c =
    one_changed (λ t zs. with_all t (map text_of (words_view zs))) (λ t z. add t (word_view z.now).text) (λ t z zs. refl) c.args.words.now c.loop-word.word-index c.word-item.result
    c.loop-word.table c.add.new.self _ c.loop-word-test.true c.word-item.is c.loop-word.invariant (rw c.deref.ensures at c.in_ok-add.ensures.names)
