use Rattle.std.proofs.Common.{◌≡◌, ◌++◌, drop, flat_map, map}
use Rattle.lus_tree.specs.Tree.{text_of}
use Rattle.lus_order.specs.Names.{words_view}
use Rattle.lus_order.specs.Rows.{clock_row}
use Rattle.lus_order.proofs.own_rows.push_clock_numbers.Given as goal

abbrev pub invariant-loop-word : goal.invariant-loop-word
invariant-loop-word l = l.row.items ++ flat_map (clock_row l.clocks) (map text_of (words_view (drop l.word-index l.words)))
    ≡ l.initial.row.items ++ flat_map (clock_row l.clocks) (map text_of (words_view l.words))
