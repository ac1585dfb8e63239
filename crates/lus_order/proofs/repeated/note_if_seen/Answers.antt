use Rattle.std.proofs.Common.{refl, sym}
use Rattle.lus_tree.specs.View.{word_view}
use Rattle.lus_order.specs.Names.{words_view}
use Rattle.lus_order.proofs.RepeatedLefts.{none_met}
use Rattle.lus_order.proofs.repeated.note_if_seen.Goals as goal

pub returns-else-has : goal.returns-else-has
returns-else-has c = rw (none_met c.args.seen.now (word_view c.args.word.now) (words_view c.args.behind.now) c.requires
    (sym (rw c.deref.ensures at c.if-has.ensures))) refl
