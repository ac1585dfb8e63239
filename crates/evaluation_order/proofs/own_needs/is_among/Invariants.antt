use Rattle.std.proofs.Common.{◌≡◌, map, drop}
use Rattle.lus_tree.specs.Tree.{text_of}
use Rattle.lus_tree.specs.View.{word_view}
use Rattle.lus_meaning.specs.Depends.{named_in}
use Rattle.evaluation_order.proofs.own_needs.is_among.Given as goal

abbrev pub invariant-loop-word : goal.invariant-loop-word
invariant-loop-word l = named_in l.name (map text_of (map word_view (drop l.word-index l.words)))
    ≡ named_in l.name (map text_of (map word_view l.words))
