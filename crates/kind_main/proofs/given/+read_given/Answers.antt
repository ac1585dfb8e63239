use Rattle.std.proofs.Common.{◌≡◌, ◌∙◌, sym, subst, true, false, string_bytes}
use Rattle.kind_main.specs.Given.{Given, AreGiven, given_view, is_option}
use Rattle.kind_main.proofs.Givens.{words_here, words_next, no_shorter, no_longer, added_option, added_file}
use Rattle.kind_main.proofs.given.+read_given.Goals as goal

pub returns-in-None : goal.returns-in-None
returns-in-None t c g =
    let here = words_here string_bytes c.args.words.now c.word-item-2.result c.value-item.result c.in-len2-up.len_at_least c.word-item-2.is c.value-item.is in
    let o = sym c.is_option.ensures ∙ c.if-is_option.true in
    λ h. no_shorter _ _ _ (subst (λ w. is_option w ≡ true) c.as_str-word.ensures.value o) (rw c.in-None.is at c.read_given.ensures) g
    (subst (λ ws. AreGiven ws g) here h)

pub returns-in-Some : goal.returns-in-Some
returns-in-Some t c =
    let here = words_here string_bytes c.args.words.now c.word-item-2.result c.value-item.result c.in-len2-up.len_at_least c.word-item-2.is c.value-item.is in
    let o = sym c.is_option.ensures ∙ c.if-is_option.true in
    added_option given_view _ _ _ _ here (subst (λ w. is_option w ≡ true) c.as_str-word.ensures.value o) _
    (rw c.in-Some.is at c.read_given.ensures) c.with_option.result (rw (c.as_str-word.ensures.value, c.as_str-in-Some.ensures.value) at c.with_option.ensures)

pub returns-in-None-read_given : goal.returns-in-None-read_given
returns-in-None-read_given t c g =
    let here = words_here string_bytes c.args.words.now c.word-item-2.result c.value-item.result c.in-len2-up.len_at_least c.word-item-2.is c.value-item.is in
    let next = words_next string_bytes c.args.words.now c.word-item-2.result c.value-item.result c.in-len2-up.len_at_least c.word-item-2.is c.value-item.is in
    let o = sym c.is_option.ensures ∙ c.if-is_option.false in
    λ h. no_longer _ _ _ (subst (λ w. is_option w ≡ false) c.as_str-word.ensures.value o)
    (subst (λ ws. (x : Given) → AreGiven ws x → ⊥) next (rw c.in-None-read_given.is at c.read_given-else-is_option.ensures)) g
    (subst (λ ws. AreGiven ws g) here h)

pub returns-in-Some-read_given : goal.returns-in-Some-read_given
returns-in-Some-read_given t c =
    let here = words_here string_bytes c.args.words.now c.word-item-2.result c.value-item.result c.in-len2-up.len_at_least c.word-item-2.is c.value-item.is in
    let next = words_next string_bytes c.args.words.now c.word-item-2.result c.value-item.result c.in-len2-up.len_at_least c.word-item-2.is c.value-item.is in
    let o = sym c.is_option.ensures ∙ c.if-is_option.false in
    added_file given_view _ _ _ _ here (subst (λ w. is_option w ≡ false) c.as_str-word.ensures.value o) _
    (subst (λ ws. AreGiven ws (given_view c.in-Some-read_given.others)) next (rw c.in-Some-read_given.is at c.read_given-else-is_option.ensures))
    c.with_source-in-Some-read_given.result (rw c.as_str-word.ensures.value at c.with_source-in-Some-read_given.ensures)
