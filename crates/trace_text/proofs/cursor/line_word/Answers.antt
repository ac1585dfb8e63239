use Rattle.std.proofs.Common.{◌≡◌, ◌≤◌, ◌<◌, ℕ, List, Some, ap, sym, ◌∙◌, take, drop, arith, length, rules}
use Rattle.trace_text.specs.Reading.{Left, left_of, word_of, word_length, shift}
use Rattle.trace_text.proofs.Cuts.{left_at, left_word, word_none}
use Rattle.trace_text.proofs.cursor.line_word.Goals as goal

pub returns-then-count-eq0-clause-word : goal.returns-then-count-eq0-clause-word
returns-then-count-eq0-clause-word c =
    let s = c.past_blanks-start.result in
    sym (ap word_of (sym c.past_blanks-start.ensures.same) ∙ word_none s.at s.rest.now c.past_blanks-start.ensures.blank
    (sym c.word_length-count.ensures.length ∙ search rules))

pub returns-clause-word : goal.returns-clause-word
returns-clause-word c =
    let s = c.past_blanks-start.result in
    let n = c.word_length-count.result in
    let e : n ≡ word_length s.rest.now = c.word_length-count.ensures.length in
    let l : 0 < word_length s.rest.now = omega arith in
    let h : word_length s.rest.now ≤ length s.rest.now = omega arith in
    let w = left_word s.at s.rest.now l h in
    let t : c.split_at.result.0.now ≡ take n s.rest.now = search rules in
    let k : left_of c.past.result ≡ left_at (shift n s.at) (drop n s.rest.now) = ap
    (λ q. left_at q c.past.result.rest.now) c.past.ensures.at ∙ ap (left_at (shift n s.at)) c.past.ensures.rest in
    ap (λ (x : List ℕ). Some (record { text = x; at = s.at }, left_of c.past.result)) t ∙ ap
    (λ (x : Left). Some (record { text = take n s.rest.now; at = s.at }, x)) k
    ∙ ap (λ (m : ℕ). Some (record { text = take m s.rest.now; at = s.at }, left_at (shift m s.at) (drop m s.rest.now))) e ∙ sym w
    ∙ ap word_of c.past_blanks-start.ensures.same
