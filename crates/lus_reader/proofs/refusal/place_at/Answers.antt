use Rattle.std.proofs.Common.{ap, sym, ◌∙◌, arith}
use Rattle.lus_grammar.specs.Stream.{Mark}
use Rattle.lus_reader.proofs.Streams.{stream_inside, stream_outside}
use Rattle.lus_reader.proofs.refusal.place_at.Goals as goal

pub returns-then-at-tokens : goal.returns-then-at-tokens
returns-then-at-tokens c = ap (λ (m : Mark). m.at) (sym (stream_inside c.args.bytes.now c.args.tokens.now c.args.at _ (omega arith)))

pub returns-else-at-tokens : goal.returns-else-at-tokens
returns-else-at-tokens c = c.end.ensures ∙ ap (λ (m : Mark). m.at) (sym (stream_outside c.args.bytes.now c.args.tokens.now c.args.at (omega arith)))
