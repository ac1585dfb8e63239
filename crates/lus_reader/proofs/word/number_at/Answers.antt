use Rattle.std.proofs.Common.{ap}
use Rattle.lus_grammar.specs.Stream.{Mark}
use Rattle.lus_reader.proofs.Streams.{stream_inside}
use Rattle.lus_reader.proofs.Texts.{fits, no_token}
use Rattle.lus_reader.proofs.word.number_at.Goals as goal

pub value_of-requires : goal.value_of-requires
value_of-requires c =
    let e = ap (λ (m : Mark). m.class) (stream_inside c.args.bytes.now c.args.tokens.now c.args.at no_token c.requires.inside) in
    rw c.slice_at.ensures (fits c.args.bytes.now c.args.tokens.now c.args.at no_token c.requires.first c.requires.inside (let n = c.requires.number in cc))
