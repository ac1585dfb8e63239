use Rattle.std.proofs.Common.{ℕ, ap, sym, ◌∙◌, drop}
use Rattle.trace_text.specs.Reading.{begins_with_blank, shift}
use Rattle.trace_text.proofs.Cuts.{left_at, blanks, no_blank}
use Rattle.trace_text.proofs.cursor.past_blanks.Goals as goal

pub returns-clause-same : goal.returns-clause-same
returns-clause-same c =
    let n = c.blank_length.result in
    let bs = c.args.here.rest.now in
    ap (λ q. left_at q c.past.result.rest.now) c.past.ensures.at ∙ ap (left_at (shift n c.args.here.at)) c.past.ensures.rest
    ∙ ap (λ (k : ℕ). left_at (shift k c.args.here.at) (drop k bs)) c.blank_length.ensures.length ∙ sym (blanks c.args.here.at bs)

pub returns-clause-blank : goal.returns-clause-blank
returns-clause-blank c =
    ap begins_with_blank c.past.ensures.rest ∙ ap (λ (k : ℕ). begins_with_blank (drop k c.args.here.rest.now)) c.blank_length.ensures.length
    ∙ no_blank c.args.here.rest.now
