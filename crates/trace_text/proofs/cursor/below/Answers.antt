use Rattle.std.proofs.Common.{◌≡◌, ℕ, List, [], ap, sym, ◌∙◌, drop, arith, rules}
use Rattle.trace_text.specs.Cutting.{below}
use Rattle.trace_text.specs.Reading.{first_of, end_length}
use Rattle.trace_text.proofs.Cuts.{left_at, goes_below, no_line_below}
use Rattle.trace_text.proofs.cursor.below.Goals as goal

pub returns-then-count-eq0-clause-below : goal.returns-then-count-eq0-clause-below
returns-then-count-eq0-clause-below c =
    let e = c.past_blanks-end.result in
    let words : (left_at e.at e.rest.now).words ≡ [] = ap (λ l. l.words) c.past_blanks-end.ensures.same ∙ c.requires.none in
    ap first_of (sym c.past_blanks-end.ensures.same) ∙ no_line_below e.at e.rest.now c.past_blanks-end.ensures.blank words (omega arith)

pub returns-clause-below : goal.returns-clause-below
returns-clause-below c =
    let e = c.past_blanks-end.result in
    let words : (left_at e.at e.rest.now).words ≡ [] = ap (λ l. l.words) c.past_blanks-end.ensures.same ∙ c.requires.none in
    let r : drop (end_length e.rest.now) e.rest.now ≡ c.split_at.result.1.now = ap (λ (k : ℕ). drop k e.rest.now)
    (sym c.end_length-count.ensures.length) ∙ search rules in
    ap first_of (sym c.past_blanks-end.ensures.same) ∙ goes_below e.at e.rest.now c.past_blanks-end.ensures.blank words (omega arith) ∙ ap
    (λ (x : List ℕ). first_of (left_at (below e.at) x)) r
