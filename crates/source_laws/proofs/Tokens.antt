-- The texts of names, of numbers and of labels.
use Rattle.std.proofs.Common.{◌≡◌, ℕ, zero, suc, ◌+◌, ◌-◌, ◌*◌, ◌<◌, ◌≤◌, true, not, ◌&&◌, List, [], ◌∷◌, ◌++◌, Some, length, take, drop, refl, sym, ap, subst, ◌∙◌, arith}
use Rattle.std.specs.List.{list_all}
use Rattle.std.proofs.Math.Seq.{take-length, take-append_seam}
use Rattle.std.proofs.lemmas.Grind.{common_steps}
use Rattle.std.proofs.lemmas.List.{get_or-take, get_or-drop, length-take-le, length-drop, length-append}
use Rattle.lus_lexer.specs.declared.token.Token.{Token as Tok}
use Rattle.lus_lexer.specs.declared.token.Class.{Class}
use Rattle.lus_lexer.specs.declared.token.Class.TheVariants.{Ident, Number, Text}
use Rattle.lus_lexer.specs.declared.spelling.Lexeme.TheVariants.{Token}
use Rattle.lus_lexer.specs.Table.{Row}
use Rattle.lus_lexer.specs.Tokens.{byte, value, In, IsRow, is_letter, is_word, is_plain, whole}
use Rattle.lus_lexer.specs.Names.{is_name}
use Rattle.lus_lexer.specs.Laws.{HasText, fixed, name, number, text, slice}
use Rattle.lus_lexer.proofs.Spans.{span, span_within, stands_each, and_left, and_right}
use Rattle.lus_lexer.proofs.Looking.{same_slice}
use Rattle.lus_lexer.proofs.Names.{whole_stands, test_of_name}
use Rattle.lus_lexer.proofs.Order.{taken, small_value}
use Rattle.lus_grammar.specs.Stream.{stream}
use Rattle.lus_grammar.specs.Source.{AreTokens}
use Rattle.lus_grammar.specs.Trees.{digits_value}
use Rattle.lus_grammar.specs.Programs.{unquoted}
use Rattle.lus_meaning.specs.Grammatical.{is_in, is_printable}
use Rattle.source_laws.proofs.Lists.{both_true}
use Rattle.source_laws.proofs.Marks.{at_marks, has_text, not_listed}
use Rattle.source_laws.proofs.Parts.{IsWord, IsSmall, IsPrintable}

-- ---- names

some_letter : (w : List ℕ) → is_letter (byte w 0) ≡ true → 0 < length w
some_letter [] h = cc
some_letter (c ∷ w) h = omega arith

whole_slice : (w : List ℕ) → take (length w - 0) (drop 0 w) ≡ w
whole_slice w =
    let e : length w - 0 ≡ length w = omega arith in subst (λ (n : ℕ). take n w ≡ w) (sym e) (take-length w)

row_text : (w : List ℕ) (r : Row) → IsRow (byte w) 0 (length w) r → w ≡ r.text
row_text w r h = sym (same_slice w 0 (length w) r.text (omega arith) h.stands ∙ whole_slice w)

-- what is spelled as a name is no keyword and no word that is left out
name_text : (c : Class) (w : List ℕ) → c ≡ Ident → HasText c w → is_name w ≡ true
name_text c w q (fixed r i e f) = Prim.absurd (not_listed c Ident r q refl i f)
name_text c w q (name l a n e) = test_of_name w (record {
  some = some_letter w l;
  letter = l;
  word = stands_each (byte w) is_word 0 w (length w) a (whole_stands w);
  no_row = λ r h. n r h.listed (row_text w r h);
})
name_text c w q (number o a e) = cc
name_text c w q (text v e a f) = cc

-- a mark of a name has the text of a name
pub names_marked : (bytes : List ℕ) (ts : List Tok) → AreTokens bytes ts → (k : ℕ) →
    (stream bytes ts k).class ≡ Some Ident → IsWord (stream bytes ts k).text
names_marked bytes ts h =
    at_marks bytes ts Ident IsWord (λ t i c. name_text t.class (slice bytes t) c (has_text bytes ts t h i))

-- ---- numbers

-- the value of a slice's digits is the value of the digits there
same_value : (b : List ℕ) (i n k : ℕ) → k ≤ n → value (byte (take n (drop i b))) 0 k ≡ value (byte b) i k
same_value b i n zero l = refl
same_value b i n (suc k) l =
    let r = same_value b i n k (omega (arith, l)) in
    let z : 0 + k ≡ k = omega arith in
    let e : byte (take n (drop i b)) (0 + k) ≡ byte b (i + k) = ap (byte (take n (drop i b))) z ∙ get_or-take n (drop i b) k 0
    (omega (arith, l)) ∙ get_or-drop i b k 0 in
    ap (λ (x : ℕ). 10 * x + (byte (take n (drop i b)) (0 + k) - 48)) r ∙ ap (λ (x : ℕ). 10 * value (byte b) i k + (x - 48)) e

slice_length : (b : List ℕ) (t : Tok) → t.from < t.to → t.to ≤ length b → length (slice b t) ≡ t.to - t.from
slice_length b t l h = length-take-le (t.to - t.from) (drop t.from b) (omega (arith, length-drop t.from b, l, h))

slice_value : (b : List ℕ) (t : Tok) → t.from < t.to → t.to ≤ length b →
    digits_value (slice b t) ≡ value (byte b) t.from (t.to - t.from)
slice_value b t l h = rw (slice_length b t l h) (same_value b t.from (t.to - t.from) (t.to - t.from) (omega arith))

small_number : (bytes : List ℕ) (ts : List Tok) (t : Tok) → AreTokens bytes ts → In t ts → t.class ≡ Number →
    digits_value (slice bytes t) ≤ 9223372036854775807
small_number bytes ts t h i c =
    let k = taken bytes 0 ts whole h t i in
    let o = span (byte bytes) t.from t.to (Token t.class) k.longest.spells in
    let l = span_within bytes t.from t.to (Token t.class) k.longest.spells in
    let v = small_value (byte bytes) t.from t.to (k.fits c) in
    rw (slice_value bytes t o.some l) v

is_small : (n : ℕ) → n ≤ 9223372036854775807 → IsSmall n
is_small n h = grind (arith, common_steps)

-- the value of a number's mark is small
pub numbers_marked : (bytes : List ℕ) (ts : List Tok) → AreTokens bytes ts → (k : ℕ) →
    (stream bytes ts k).class ≡ Some Number → IsSmall (digits_value (stream bytes ts k).text)
numbers_marked bytes ts h =
    at_marks bytes ts Number (λ w. IsSmall (digits_value w)) (λ t i c. is_small (digits_value (slice bytes t)) (small_number bytes ts t h i c))

-- ---- texts

plain_printable : (c : ℕ) → is_plain c ≡ true →
    (is_in 32 126 c && (not (is_in 34 34 c) && not (is_in 92 92 c))) ≡ true
plain_printable c h = grind (arith, common_steps)

all_printable : (v : List ℕ) → list_all is_plain v ≡ true → is_printable v ≡ true
all_printable [] h = refl
all_printable (c ∷ v) h =
    both_true _ (is_printable v) (plain_printable c (and_left (is_plain c) _ h)) (all_printable v (and_right (is_plain c) _ h))

-- between its quotes stands what a text is
between : (v : List ℕ) → unquoted (34 ∷ (v ++ 34 ∷ [])) ≡ v
between v =
    let e : length (34 ∷ (v ++ 34 ∷ [])) - 2 ≡ length v = omega (arith, length-append v (34 ∷ [])) in
    rw e (take-append_seam v (34 ∷ []))

text_printable : (c : Class) (w : List ℕ) → c ≡ Text → HasText c w → is_printable (unquoted w) ≡ true
text_printable c w q (fixed r i e f) = Prim.absurd (not_listed c Text r q refl i f)
text_printable c w q (name l a n e) = cc
text_printable c w q (number o a e) = cc
text_printable c w q (text v e a f) = rw (e, between v) (all_printable v a)

-- a mark of a text has printable bytes between its quotes, and no quote and no backslash
pub texts_marked : (bytes : List ℕ) (ts : List Tok) → AreTokens bytes ts → (k : ℕ) →
    (stream bytes ts k).class ≡ Some Text → IsPrintable (Some (unquoted (stream bytes ts k).text))
texts_marked bytes ts h =
    at_marks bytes ts Text (λ w. IsPrintable (Some (unquoted w))) (λ t i c. text_printable t.class (slice bytes t) c (has_text bytes ts t h i))
