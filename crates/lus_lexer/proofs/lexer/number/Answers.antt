use Rattle.std.proofs.Common.{length, arith}
use Rattle.lus_lexer.specs.Tokens.{byte}
use Rattle.lus_lexer.proofs.Spans.{span, span_within}
use Rattle.lus_lexer.proofs.Rules.{wide_at, is_number}
use Rattle.lus_lexer.proofs.lexer.number.Goals as goal

pub is_wide-requires-clause-within : goal.is_wide-requires-clause-within
is_wide-requires-clause-within c =
    let m = span _ _ _ _ c.requires.longest.spells in
    (omega (arith, m.some), span_within c.args.bytes.now _ _ _ c.requires.longest.spells)

pub is_wide-requires-clause-digits : goal.is_wide-requires-clause-digits
is_wide-requires-clause-digits c = let k = is_number _ _ _ c.requires.longest.spells in k.digits

pub returns-then-is_wide-clause-step : goal.returns-then-is_wide-clause-step
returns-then-is_wide-clause-step c = wide_at (byte c.args.bytes.now)
    (length c.args.bytes.now) c.args.here.at c.args.end c.args.here.pos c.refusal.result.at c.refusal.result.what c.requires.here
    c.refusal.ensures.at c.refusal.ensures.what c.requires.longest (c.is_wide.ensures.0 c.if-is_wide.true)
