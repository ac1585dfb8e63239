use Rattle.std.proofs.Common.{◌≤◌, ◌-◌, ◌++◌, length, List}
use Rattle.lus_lexer.specs.declared.token.Token.{Token}
use Rattle.lus_lexer.specs.Tokens.{byte, IsCursor, Lexes, Ending}
use Rattle.lus_lexer.proofs.lexer.tokens.Given as goal

abbrev pub invariant-loop-here : goal.invariant-loop-here
invariant-loop-here l = record {
  within : l.here.at ≤ length l.bytes;
  cursor : IsCursor (byte l.bytes) l.here.at l.here.pos;
  leads : (ts : List Token) (e : Ending) → Lexes (byte l.bytes) (length l.bytes) l.here.at ts e → Lexes (byte l.bytes) (length l.bytes) 0
      (l.tokens.items ++ ts) e;
}

abbrev pub decreases-loop-here : goal.decreases-loop-here
decreases-loop-here l = length l.bytes - l.here.at
