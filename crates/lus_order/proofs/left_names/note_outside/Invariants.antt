use Rattle.std.proofs.Common.{◌≡◌, drop}
use Rattle.lus_scopes.specs.Least.{least_view, noted_all}
use Rattle.lus_order.specs.Names.{words_view}
use Rattle.lus_order.specs.Lefts.{outside}
use Rattle.lus_order.proofs.left_names.note_outside.Given as goal

abbrev pub invariant-loop-word : goal.invariant-loop-word
invariant-loop-word l = noted_all (least_view l.least) (outside l.table (words_view (drop l.word-index l.words)))
    ≡ noted_all (least_view l.initial.least) (outside l.table (words_view l.words))
