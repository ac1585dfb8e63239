use Rattle.lus_reader.proofs.Texts.{utf8, no_token}
use Rattle.lus_reader.proofs.word.string_at.Goals as goal

pub unreachable-requires : goal.unreachable-requires
unreachable-requires c = c.in-Err.ensures.cases.0 (rw c.slice_at.ensures
    (utf8 c.args.bytes.now c.args.tokens.now c.args.at no_token c.requires.first c.requires.inside))
