use Rattle.std.proofs.Common.{◌≡◌, None, Err, ap, sym, ◌∙◌}
use Rattle.trace_text.specs.Reading.{left_of, word_of, or_misfit}
use Rattle.trace_text.proofs.Cuts.{left_at, end_here, word_short}
use Rattle.trace_text.proofs.cursor.next_word.Goals as goal

pub returns-in-None-clause-word : goal.returns-in-None-clause-word
returns-in-None-clause-word c =
    let p = c.past_blanks.result in
    let l = left_of c.args.here in
    let none : word_of l ≡ None = sym c.in-None.ensures.word in
    let none' : word_of (left_at p.at p.rest.now) ≡ None = ap word_of c.past_blanks.ensures.same ∙ none in
    let e : (left_of p).end ≡ p.at = end_here p.at p.rest.now c.past_blanks.ensures.blank (word_short p.rest.now) none' in
    ap Err (sym e) ∙ ap (λ x. Err x.end) c.past_blanks.ensures.same ∙ ap (or_misfit l.end) (sym none)
