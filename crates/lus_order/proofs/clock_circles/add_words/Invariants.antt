use Rattle.std.proofs.Common.{◌≡◌, drop, map}
use Rattle.lus_tree.specs.Tree.{text_of}
use Rattle.lus_order.specs.Names.{words_view}
use Rattle.lus_order.specs.Streams.{with_all}
use Rattle.lus_order.proofs.clock_circles.add_words.Given as goal

abbrev pub invariant-loop-word : goal.invariant-loop-word
invariant-loop-word l = with_all l.table (map text_of (words_view (drop l.word-index l.words))) ≡ with_all l.initial.table (map text_of (words_view l.words))
