use Rattle.std.proofs.Common.{◌≡◌, drop, map}
use Rattle.lus_tree.specs.Tree.{text_of}
use Rattle.lus_tree.specs.View.{word_view}
use Rattle.lus_streams.specs.Clocks.{clock_seen}
use Rattle.lus_streams.specs.Names.{names_view}
use Rattle.lus_clocks.specs.Items.{some_other}
use Rattle.lus_clocks.proofs.equation.some_other.Given as goal

-- what is to come answers for all
abbrev pub invariant-loop-word : goal.invariant-loop-word
invariant-loop-word l = some_other (names_view l.names) (clock_seen l.clock) (map text_of (map word_view (drop l.word-index l.words)))
    ≡ some_other (names_view l.names) (clock_seen l.clock) (map text_of (map word_view l.words))
