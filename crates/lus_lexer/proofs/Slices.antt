-- A token's text is its slice.
use Rattle.std.proofs.Common.{◌≡◌, ℕ, zero, suc, ◌+◌, ◌-◌, ◌<◌, ◌≤◌, Bool, true, List, [], ◌∷◌, ◌++◌, length, take, drop, get_or, refl, sym, subst, arith, drop-cons}
use Rattle.std.specs.List.{list_all}
use Rattle.std.specs.Char.{is_ascii_digit}
use Rattle.std.proofs.lemmas.Grind.{common_steps}
use Rattle.lus_lexer.specs.declared.token.Class.{Class}
use Rattle.lus_lexer.specs.declared.token.Class.TheVariants.{Ident, Number, Text}
use Rattle.lus_lexer.specs.declared.spelling.Lexeme.TheVariants.{Token}
use Rattle.lus_lexer.specs.Table.{Row, table}
use Rattle.lus_lexer.specs.Tokens.{byte, In, Each, Stands, IsRow, IsName, IsNumber, IsText, Spells, row, is_letter, is_word, is_plain}
use Rattle.lus_lexer.specs.Tokens as K
use Rattle.lus_lexer.specs.Laws.{HasText, fixed, name, number, text}
use Rattle.lus_lexer.proofs.Spans.{span, span_within}
use Rattle.lus_lexer.proofs.Tables.{both, word_alone}
use Rattle.lus_lexer.proofs.Looking.{slice_stands, same_slice}

each_slice : (bytes : List ℕ) (f : ℕ → Bool) (i d j : ℕ) → j ≡ i + d → j ≤ length bytes → Each (byte bytes) f i j → list_all f (take d (drop i bytes)) ≡ true
each_slice bytes f i zero j e h k = refl
each_slice bytes f i (suc d) j e h k =
    let l : i < length bytes = omega (arith, e, h) in
    let p : i + 1 ≡ suc i = omega arith in
    let r : list_all f (take d (drop (i + 1) bytes)) ≡ true = each_slice bytes f (i + 1) d j (omega (arith, e)) h (λ m a b. k m (omega (arith, a)) b) in
    let r' : list_all f (take d (drop (suc i) bytes)) ≡ true = subst (λ (x : ℕ). list_all f (take d (drop x bytes)) ≡ true) p r in
    let q : f (byte bytes i) ≡ true = k i (omega arith) (omega (arith, e)) in
    rw (drop-cons bytes i 0 l) (both (f (byte bytes i)) _ q r')

all_slice : (bytes : List ℕ) (f : ℕ → Bool) (i j : ℕ) → i ≤ j → j ≤ length bytes → Each (byte bytes) f i j → list_all f (take (j - i) (drop i bytes)) ≡ true
all_slice bytes f i j l h k = each_slice bytes f i (j - i) j (omega (arith, l)) h k

slice_first : (bytes : List ℕ) (i d : ℕ) → i < length bytes → get_or (take (suc d) (drop i bytes)) 0 0 ≡ byte bytes i
slice_first bytes i d l = rw (drop-cons bytes i 0 l) refl

first_of_slice : (bytes : List ℕ) (i j : ℕ) → i < j → j ≤ length bytes → get_or (take (j - i) (drop i bytes)) 0 0 ≡ byte bytes i
first_of_slice bytes i j l h =
    let e : suc (j - i - 1) ≡ j - i = omega (arith, l) in
    subst (λ (x : ℕ). get_or (take x (drop i bytes)) 0 0 ≡ byte bytes i) e (slice_first bytes i (j - i - 1) (omega (arith, l, h)))

letter_first : (bytes : List ℕ) (i j : ℕ) → i < j → j ≤ length bytes → is_letter (byte bytes i) ≡ true → is_letter
    (get_or (take (j - i) (drop i bytes)) 0 0) ≡ true
letter_first bytes i j l h g = subst (λ (x : ℕ). is_letter x ≡ true) (sym (first_of_slice bytes i j l h)) g

stands_append : (s : ℕ → ℕ) (i k j : ℕ) (v w : List ℕ) → Stands s i v k → Stands s k w j → Stands s i (v ++ w) j
stands_append s i k j [] w h g = subst (λ (x : ℕ). Stands s x w j) h g
stands_append s i k j (c ∷ v) w h g = (h.0, stands_append s (i + 1) k j v w h.1 g)

stands_row : (bytes : List ℕ) (i j : ℕ) (r : Row) → i < j → j ≤ length bytes → is_letter (byte bytes i) ≡ true → In r table → take (j - i)
    (drop i bytes) ≡ r.text → IsRow (byte bytes) i j r
stands_row bytes i j r l h g k e = record {
  listed = k;
  stands = subst (λ (x : List ℕ). Stands (byte bytes) i x j) e (slice_stands bytes i (j - i) j (omega (arith, l)) h);
  alone = λ a. Prim.absurd (word_alone r k (subst (λ (x : List ℕ). is_letter (get_or x 0 0) ≡ true) e (letter_first bytes i j l h g)) a);
}

some_slice : (bytes : List ℕ) (i j : ℕ) → i < j → j ≤ length bytes → 0 < length (take (j - i) (drop i bytes))
some_slice bytes i j o l = grind (arith, common_steps)

token_is : (c d : Class) → Token c ≡ Token d → c ≡ d
token_is c d e = cc

text_slice : (bytes : List ℕ) (i j : ℕ) (h : IsText (byte bytes) i j) → j ≤ length bytes → take (j - i) (drop i bytes) ≡ 34 ∷
    (take (h.last - (i + 1)) (drop (i + 1) bytes) ++ 34 ∷ [])
text_slice bytes i j h l =
    let v : List ℕ = take (h.last - (i + 1)) (drop (i + 1) bytes) in
    let a : Stands (byte bytes) (i + 1) v h.last = slice_stands bytes (i + 1) (h.last - (i + 1)) h.last (omega (arith, h.some)) (omega (arith, l, h.past)) in
    let b : Stands (byte bytes) h.last (34 ∷ []) j = (h.quote_again, h.past) in
    let k : Stands (byte bytes) i (34 ∷ (v ++ 34 ∷ [])) j = (h.quote, stands_append (byte bytes) (i + 1) h.last j v (34 ∷ []) a b) in
    sym (same_slice bytes i j (34 ∷ (v ++ 34 ∷ [])) l k)

has_text : (bytes : List ℕ) (i j : ℕ) (c : Class) → i < j → j ≤ length bytes → Spells (byte bytes) i j (Token c) → HasText c (take (j - i) (drop i bytes))
has_text bytes i j c o l (row r h e) = fixed r h.listed (sym (same_slice bytes i j r.text l h.stands)) (sym e)
has_text bytes i j c o l (K.name h e) = name
    (letter_first bytes i j o l h.letter)
    (all_slice bytes is_word i j (omega (arith, o)) l h.word)
    (λ r k q. h.no_row r (stands_row bytes i j r o l h.letter k q))
    (token_is c Ident e)
has_text bytes i j c o l (K.number h e) = number
    (some_slice bytes i j o l)
    (all_slice bytes is_ascii_digit i j (omega (arith, o)) l h.digits)
    (token_is c Number e)
has_text bytes i j c o l (K.text h e) = text
    (take (h.last - (i + 1)) (drop (i + 1) bytes))
    (text_slice bytes i j h l)
    (all_slice bytes is_plain (i + 1) h.last (omega (arith, h.some)) (omega (arith, l, h.past)) h.plain)
    (token_is c Text e)

pub text_of : (bytes : List ℕ) (i j : ℕ) (c : Class) → Spells (byte bytes) i j (Token c) → HasText c (take (j - i) (drop i bytes))
text_of bytes i j c h = let m = span (byte bytes) i j (Token c) h in has_text bytes i j c m.some (span_within bytes i j (Token c) h) h
