use Rattle.std.proofs.Common.{◌≡◌, ◌||◌, map, drop}
use Rattle.lus_tree.specs.Tree.{Name, text_of}
use Rattle.lus_tree.specs.View.{word_view}
use Rattle.lus_meaning.specs.Depends.{named_in}
use Rattle.path_traces.proofs.defined.add_words.Given as goal

-- what is there, and what is to come, is all
abbrev pub invariant-loop-word : goal.invariant-loop-word
invariant-loop-word l = (x : Name) → (named_in x l.names || named_in x (map text_of (map word_view (drop l.word-index l.words))))
    ≡ (named_in x l.initial.names || named_in x (map text_of (map word_view l.words)))
