use Rattle.std.proofs.Common.{sym, arith}
use Rattle.lus_reader.proofs.Texts.{lies, text_is, no_token}
use Rattle.lus_reader.proofs.word.slice_at.Goals as goal

pub slice_bounds-result-count : goal.slice_bounds-result-count
slice_bounds-result-count c =
    let l = lies c.args.bytes.now c.args.tokens.now c.args.at no_token c.requires.first c.requires.inside in omega arith

pub slice_bounds-result-start : goal.slice_bounds-result-start
slice_bounds-result-start c =
    let l = lies c.args.bytes.now c.args.tokens.now c.args.at no_token c.requires.first c.requires.inside in omega arith

pub slice_bounds-result-end : goal.slice_bounds-result-end
slice_bounds-result-end c =
    let l = lies c.args.bytes.now c.args.tokens.now c.args.at no_token c.requires.first c.requires.inside in omega arith

pub returns : goal.returns
returns c = sym (text_is c.args.bytes.now c.args.tokens.now c.args.at no_token c.requires.inside)
