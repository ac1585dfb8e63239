use Rattle.std.proofs.Common.{ap}
use Rattle.lus_grammar.specs.Stream.{Mark}
use Rattle.lus_reader.proofs.Streams.{stream_inside}
use Rattle.lus_reader.proofs.token.pos_at.Goals as goal

pub returns : goal.returns
returns c = λ bytes. ap (λ (m : Mark). m.at) (stream_inside bytes c.args.tokens.now c.args.at _ c.requires)
