use Rattle.std.proofs.Common.{◌≡◌, drop, map}
use Rattle.lus_tree.specs.Tree.{text_of}
use Rattle.lus_order.specs.Backs.{any_marked}
use Rattle.lus_order.specs.Names.{words_view}
use Rattle.lus_order.proofs.circle_faults.any_marked.Given as goal

abbrev pub invariant-loop-word : goal.invariant-loop-word
invariant-loop-word l = any_marked l.marks l.names (map text_of (words_view (drop l.word-index l.words)))
    ≡ any_marked l.marks l.names (map text_of (words_view l.words))
