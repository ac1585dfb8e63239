use Rattle.std.proofs.Common.{◌≡◌, drop, map}
use Rattle.lus_tree.specs.Tree.{text_of}
use Rattle.lus_order.specs.Names.{words_view}
use Rattle.lus_order.specs.Streams.{Widened, with_all}
use Rattle.lus_order.proofs.streams.add_lefts.Given as goal

abbrev pub invariant-loop-word : goal.invariant-loop-word
invariant-loop-word l = record {
  names : with_all l.clocks.names (map text_of (words_view (drop l.word-index l.words)))
      ≡ with_all l.initial.clocks.names (map text_of (words_view l.words));
  wider : Widened l.initial.clocks l.clocks;
}
