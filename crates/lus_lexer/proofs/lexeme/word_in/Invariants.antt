use Rattle.std.proofs.Common.{◌≡◌, length, map}
use Rattle.lus_lexer.specs.Search.{word_in, word_of}
use Rattle.lus_lexer.proofs.lexeme.word_in.Given as goal

abbrev pub invariant-loop-words : goal.invariant-loop-words
invariant-loop-words l = word_in (map word_of l.words) l.word ≡ word_in (map word_of l.initial.words) l.word

abbrev pub decreases-loop-words : goal.decreases-loop-words
decreases-loop-words l = length l.words
