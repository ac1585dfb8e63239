use Rattle.std.proofs.Common.{refl, flat_map, map}
use Rattle.lus_tree.specs.Tree.{text_of}
use Rattle.lus_tree.specs.View.{word_view}
use Rattle.lus_order.specs.Names.{words_view}
use Rattle.lus_order.specs.Rows.{clock_row}
use Rattle.lus_order.proofs.Steps.{one_added}
use Rattle.lus_order.proofs.own_rows.push_clock_numbers.Goals as goal

pub loop-word-preserved : goal.loop-word-preserved
loop-word-preserved c =
    one_added (λ z. clock_row c.args.clocks.now (word_view z.now).text) (λ zs. flat_map (clock_row c.args.clocks.now) (map text_of (words_view zs))) (λ z zs. refl)
    c.args.words.now c.loop-word.word-index c.word-item.result c.loop-word.row.items c.push_clock_number.new.row.items _ c.loop-word-test.true c.word-item.is
    c.loop-word.invariant (rw c.deref.ensures at c.in_ok-push_clock_number.ensures)
