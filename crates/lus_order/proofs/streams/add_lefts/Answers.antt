use Rattle.std.proofs.Common.{refl, map}
use Rattle.lus_tree.specs.Tree.{text_of}
use Rattle.lus_tree.specs.View.{word_view}
use Rattle.name_table.specs.Names.{add}
use Rattle.lus_order.specs.Names.{words_view}
use Rattle.lus_order.specs.Streams.{with_all}
use Rattle.lus_order.proofs.Widened.{both_widened}
use Rattle.lus_order.proofs.Steps.{one_changed}
use Rattle.lus_order.proofs.streams.add_lefts.Goals as goal

pub loop-word-preserved : goal.loop-word-preserved
loop-word-preserved c = record {
  names = one_changed (λ t zs. with_all t (map text_of (words_view zs))) (λ t z. add t (word_view z.now).text) (λ t z zs. refl) c.args.words.now
      c.loop-word.word-index c.word-item.result c.loop-word.clocks.names c.add_left.new.clocks.names _ c.loop-word-test.true c.word-item.is
      c.loop-word.invariant.names c.in_ok-add_left.ensures.names;
  wider = both_widened c.args.clocks.now c.loop-word.clocks c.add_left.new.clocks c.loop-word.invariant.wider c.in_ok-add_left.ensures.clocks;
}
