use Rattle.std.proofs.Common.{ap}
use Rattle.lus_grammar.specs.Stream.{Mark}
use Rattle.lus_reader.proofs.Streams.{stream_inside}
use Rattle.lus_reader.proofs.Texts.{no_token}
use Rattle.lus_reader.proofs.word.word_at.Goals as goal

pub returns : goal.returns
returns c =
    let e = stream_inside c.args.bytes.now c.args.tokens.now c.args.at no_token c.requires.inside in
    let p = ap (λ (m : Mark). m.at) e in
    let t = c.in_ok-text.ensures in
    cc
