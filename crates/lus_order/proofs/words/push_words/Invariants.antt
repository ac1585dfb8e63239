use Rattle.std.proofs.Common.{◌≡◌, ◌++◌, drop, map}
use Rattle.lus_tree.specs.View.{word_view}
use Rattle.lus_order.specs.Names.{words_view}
use Rattle.lus_order.proofs.words.push_words.Given as goal

-- what is there, followed by what is to come, is all
abbrev pub invariant-loop-name : goal.invariant-loop-name
invariant-loop-name l = words_view l.words.items ++ map word_view (drop l.name-index l.names) ≡ words_view l.initial.words.items ++ map word_view l.names
