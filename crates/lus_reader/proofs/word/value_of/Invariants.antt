use Rattle.std.proofs.Common.{◌≡◌}
use Rattle.lus_lexer.specs.Tokens.{byte, value}
use Rattle.lus_reader.proofs.word.value_of.Given as goal

abbrev pub invariant-loop-digit : goal.invariant-loop-digit
invariant-loop-digit l = l.value ≡ value (byte l.digits) 0 l.digit-index
