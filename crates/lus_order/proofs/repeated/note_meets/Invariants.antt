use Rattle.std.proofs.Common.{◌≡◌, drop}
use Rattle.lus_tree.specs.View.{word_view}
use Rattle.lus_order.specs.Repeated.{met}
use Rattle.lus_scopes.specs.Least.{least_view, noted_all}
use Rattle.lus_order.specs.Names.{words_view}
use Rattle.lus_order.proofs.repeated.note_meets.Given as goal

abbrev pub invariant-loop-other : goal.invariant-loop-other
invariant-loop-other l = noted_all (least_view l.least) (met (word_view l.word) (words_view (drop l.other-index l.words)))
    ≡ noted_all (least_view l.initial.least) (met (word_view l.word) (words_view l.words))
