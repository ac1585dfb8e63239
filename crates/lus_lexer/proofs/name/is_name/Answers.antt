use Rattle.std.proofs.Common.{◌≡◌, ◌∙◌, sym, ap, subst, refl, ℕ, true, List, length}
use Rattle.lus_lexer.specs.declared.token.Class.{Class}
use Rattle.lus_lexer.specs.Search.{word_in, looked_up, word_groups}
use Rattle.lus_lexer.specs.Tokens.{byte, is_letter, is_word, Each}
use Rattle.lus_lexer.proofs.Names.{Is, yes, no, no_letter, no_word, word_name}
use Rattle.lus_lexer.proofs.name.is_name.Goals as goal

pub returns-then-not-is_letter-clause-same : goal.returns-then-not-is_letter-clause-same
returns-then-not-is_letter-clause-same c =
    no c.args.bytes.now (no_letter c.args.bytes.now (sym (ap is_letter c.peek-first.ensures) ∙ sym c.is_letter.ensures ∙ c.if-not-is_letter.true))

pub returns-then-word_end-bytes-clause-same : goal.returns-then-word_end-bytes-clause-same
returns-then-word_end-bytes-clause-same c =
    no c.args.bytes.now (no_word c.args.bytes.now c.word_end.result c.word_end.ensures.within.1 c.if-word_end-bytes.true c.word_end.ensures.last)

ident : (c : goal.In-Ident) → Is c.args.bytes.now
ident c =
    let w : List ℕ = c.args.bytes.now in
    let l : is_letter (byte w 0) ≡ true = sym (ap is_letter c.peek-first.ensures) ∙ sym c.is_letter.ensures ∙ c.if-not-is_letter.false in
    let e : Each (byte w) is_word 0 (length w) = subst (λ (j : ℕ). Each (byte w) is_word 0 j) c.if-word_end-bytes.false c.word_end.ensures.word in
    (word_name w c.word_in.result l e (c.word_in.ensures ∙ ap (λ (ws : List (List ℕ × Class)). word_in ws w)
    (c.words_from.ensures ∙ ap (λ (b : ℕ). looked_up b word_groups) c.peek-first.ensures))).0 c.in-Ident.is

pub returns-in-Ident-clause-same : goal.returns-in-Ident-clause-same
returns-in-Ident-clause-same c = yes c.args.bytes.now (ident c)

pub returns-in-Ident-clause-name : goal.returns-in-Ident-clause-name
returns-in-Ident-clause-name c = (λ _. ident c, λ _. refl)

not_ident : (c : goal.In_default) → Is c.args.bytes.now → Prim.⊥
not_ident c h =
    let w : List ℕ = c.args.bytes.now in
    let l : is_letter (byte w 0) ≡ true = sym (ap is_letter c.peek-first.ensures) ∙ sym c.is_letter.ensures ∙ c.if-not-is_letter.false in
    let e : Each (byte w) is_word 0 (length w) = subst (λ (j : ℕ). Each (byte w) is_word 0 j) c.if-word_end-bytes.false c.word_end.ensures.word in
    c.in_default.not-Ident ((word_name w c.word_in.result l e (c.word_in.ensures ∙ ap (λ (ws : List (List ℕ × Class)). word_in ws w)
    (c.words_from.ensures ∙ ap (λ (b : ℕ). looked_up b word_groups) c.peek-first.ensures))).1 h)

pub returns-in_default : goal.returns-in_default
returns-in_default c = record {
  same = no c.args.bytes.now (not_ident c);
  name = (λ t. cc, λ h. Prim.absurd (not_ident c h));
}
