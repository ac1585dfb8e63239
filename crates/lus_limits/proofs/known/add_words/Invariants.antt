use Rattle.std.proofs.Common.{map, take}
use Rattle.lus_tree.specs.Tree.{text_of}
use Rattle.lus_tree.specs.View.{word_view}
use Rattle.lus_limits.specs.Known.{HasThese}
use Rattle.lus_limits.proofs.known.add_words.Given as goal

-- the names that there were, and those so far
abbrev pub invariant-loop-word : goal.invariant-loop-word
invariant-loop-word l = HasThese l.initial.names l.names (map text_of (map word_view (take l.word-index l.words)))
