use Rattle.std.proofs.Common.{[], List, length, arith, append-nil, subst}
use Rattle.lus_lexer.specs.declared.token.Token.{Token}
use Rattle.lus_lexer.specs.Tokens.{byte, Lexes, whole, finish}
use Rattle.lus_lexer.proofs.lexer.tokens.Goals as goal

pub returns-clause-tokens : goal.returns-clause-tokens
returns-clause-tokens c = subst (λ (x : List Token). Lexes (byte c.args.bytes.now) (length c.args.bytes.now) 0 x whole) (append-nil _)
    (c.loop-here.invariant.leads [] whole (finish (omega (arith, c.loop-here-test.false, c.loop-here.invariant.within))))
