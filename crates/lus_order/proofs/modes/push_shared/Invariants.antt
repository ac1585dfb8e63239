use Rattle.std.proofs.Common.{◌≡◌, ◌++◌, drop, map}
use Rattle.lus_tree.specs.View.{word_view}
use Rattle.lus_order.specs.Library.{texts_seen}
use Rattle.lus_order.specs.Rows.{shared_row}
use Rattle.lus_order.proofs.modes.push_shared.Given as goal

abbrev pub invariant-loop-word : goal.invariant-loop-word
invariant-loop-word l = record {
  together : l.place ≡ l.word-index;
  rest : l.row.items ++ shared_row l.names l.reads (texts_seen (drop l.place l.outputs)) (map word_view (drop l.word-index l.words))
      ≡ l.initial.row.items ++ shared_row l.names l.reads (texts_seen l.outputs) (map word_view l.words);
}
