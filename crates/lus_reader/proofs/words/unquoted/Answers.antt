use Rattle.std.proofs.Common.{◌≤◌, ◌∙◌, length, ap, arith, rules}
use Rattle.std.proofs.lemmas.Str.{IsAscii-take, IsAscii-drop}
use Rattle.lus_reader.proofs.Cuts.{quotes_at}
use Rattle.lus_reader.proofs.Leading.{inner_text}
use Rattle.lus_reader.proofs.Stops.{if_ok_by}
use Rattle.lus_reader.proofs.words.unquoted.Goals as goal

pub overflow_sub-text : goal.overflow_sub-text
overflow_sub-text c = let h = quotes_at c.args.bytes.now c.args.tokens.now c.args.at c.requires.cut c.requires.inside c.requires.text
    in let k = ap length c.slice_at-text.ensures.text in omega (arith, h, k)

pub slice_bounds-copied-count : goal.slice_bounds-copied-count
slice_bounds-copied-count c = let h = quotes_at c.args.bytes.now c.args.tokens.now c.args.at c.requires.cut c.requires.inside
    c.requires.text in let k = ap length c.slice_at-text.ensures.text in omega (arith, h, k)

pub slice_bounds-copied-start : goal.slice_bounds-copied-start
slice_bounds-copied-start c = let h = quotes_at c.args.bytes.now c.args.tokens.now c.args.at c.requires.cut c.requires.inside
    c.requires.text in let k = ap length c.slice_at-text.ensures.text in let l : 1 ≤ length c.slice_at-text.result.now = omega (arith, h, k)
    in search (rules, l)

pub copied-requires : goal.copied-requires
copied-requires c = record { ascii = IsAscii-take _ _ (IsAscii-drop _ 1 c.slice_at-text.ensures.ascii) }

pub returns-clause-text : goal.returns-clause-text
returns-clause-text c = if_ok_by c.copied.result (λ t e. e ∙ inner_text _ _ c.slice_at-text.ensures.text) c.copied.ensures.text
