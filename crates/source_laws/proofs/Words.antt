-- A name of the tokens is an identifier of the meaning.
use Rattle.std.proofs.Common.{◌≡◌, ℕ, true, not, ◌&&◌, List, [], ◌∷◌, ◌++◌, refl, subst, arith}
use Rattle.std.specs.List.{list_all, list_any}
use Rattle.std.specs.Str.{bytes_eq}
use Rattle.std.proofs.lemmas.Grind.{common_steps}
use Rattle.lus_tree.specs.Tree.{Name}
use Rattle.lus_lexer.specs.Tokens as L
use Rattle.lus_lexer.specs.Tokens.{byte, is_word}
use Rattle.lus_lexer.specs.Names.{reserved, is_name}
use Rattle.lus_lexer.proofs.Spans.{and_left, and_right}
use Rattle.lus_meaning.specs.Grammatical as M
use Rattle.lus_meaning.specs.Grammatical.{is_name_byte, starts_name, keywords, left_out_words, is_identifier}
use Rattle.source_laws.proofs.Lists.{both_true}

letter : (c : ℕ) → L.is_letter c ≡ true → M.is_letter c ≡ true
letter c h = grind (arith, common_steps)

word_byte : (c : ℕ) → is_word c ≡ true → is_name_byte c ≡ true
word_byte c h = grind (arith, common_steps)

word_bytes : (w : Name) → list_all is_word w ≡ true → list_all is_name_byte w ≡ true
word_bytes [] h = refl
word_bytes (c ∷ w) h =
    both_true (is_name_byte c) (list_all is_name_byte w) (word_byte c (and_left (is_word c) _ h)) (word_bytes w (and_right (is_word c) _ h))

begins : (w : Name) → L.is_letter (byte w 0) ≡ true → starts_name w ≡ true
begins [] h = cc
begins (c ∷ w) h = letter c h

-- both leave out the same words
same_words : reserved ≡ keywords ++ left_out_words
same_words = refl

pub name_identifier : (w : Name) → is_name w ≡ true → is_identifier w ≡ true
unfolding is_name
name_identifier w h =
    let l : L.is_letter (byte w 0) ≡ true = and_left (L.is_letter (byte w 0)) _ h in
    let k = and_right (L.is_letter (byte w 0)) _ h in
    let b : list_all is_word w ≡ true = and_left (list_all is_word w) _ k in
    let n : not (list_any (bytes_eq w) reserved) ≡ true = and_right (list_all is_word w) _ k in
    both_true (starts_name w && list_all is_name_byte w) _
    (both_true (starts_name w) (list_all is_name_byte w) (begins w l) (word_bytes w b))
    (subst (λ (x : List Name). not (list_any (bytes_eq w) x) ≡ true) same_words n)
