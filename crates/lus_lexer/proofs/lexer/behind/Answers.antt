use Rattle.std.proofs.Common.{arith}
use Rattle.lus_lexer.specs.Tokens.{byte}
use Rattle.lus_lexer.proofs.Places.{small_at, along_to}
use Rattle.lus_lexer.proofs.Spans.{span, span_within}
use Rattle.lus_lexer.proofs.lexer.behind.Goals as goal

pub overflow_sub-result : goal.overflow_sub-result
overflow_sub-result c = let k = span _ _ _ _ c.requires.longest.spells in omega (arith, k.some)

pub overflow_cast-result : goal.overflow_cast-result
overflow_cast-result c = let k = span_within c.args.bytes.now _ _ _ c.requires.longest.spells in omega (arith, k, c.requires.small)

pub overflow_add-result : goal.overflow_add-result
overflow_add-result c =
    let k = span_within c.args.bytes.now _ _ _ c.requires.longest.spells in
    let m = span _ _ _ _ c.requires.longest.spells in
    let p = small_at (byte c.args.bytes.now) c.args.here.at c.args.here.pos c.requires.here in omega (arith, k, m.some, p.column, c.requires.small)

pub returns-clause-there : goal.returns-clause-there
returns-clause-there c =
    let m = span _ _ _ _ c.requires.longest.spells in
    along_to (byte c.args.bytes.now) c.args.here.at c.args.end c.args.here.pos c.requires.here (omega (arith, m.some)) m.printable

pub returns-clause-within : goal.returns-clause-within
returns-clause-within c =
    let k = span_within c.args.bytes.now _ _ _ c.requires.longest.spells in
    let m = span _ _ _ _ c.requires.longest.spells in (m.some, k)
