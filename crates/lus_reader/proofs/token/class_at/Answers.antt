use Rattle.std.proofs.Common.{ap, arith}
use Rattle.lus_grammar.specs.Stream.{Mark}
use Rattle.lus_reader.proofs.Streams.{stream_inside, stream_outside}
use Rattle.lus_reader.proofs.token.class_at.Goals as goal

pub returns-then-at-tokens-clause-class : goal.returns-then-at-tokens-clause-class
returns-then-at-tokens-clause-class c = λ bytes. ap (λ (m : Mark). m.class) (stream_inside bytes c.args.tokens.now c.args.at _ (omega arith))

pub returns-else-at-tokens-clause-class : goal.returns-else-at-tokens-clause-class
returns-else-at-tokens-clause-class c = λ bytes. ap (λ (m : Mark). m.class) (stream_outside bytes c.args.tokens.now c.args.at (omega arith))
