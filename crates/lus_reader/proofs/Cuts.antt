-- What the tokens of a text are: how many, where they lie, and of what bytes.
use Rattle.std.proofs.Common.{Fits, w32, ◌≡◌, ℕ, ◌+◌, ◌-◌, ◌<◌, ◌≤◌, ◌&&◌, inl, inr, Bool, true, false, Some, List, [], ◌∷◌, ◌++◌, length, get_or, map, take, drop, nat_lt, suc, zero, refl, sym, ap, ◌∙◌, arith}
use Rattle.std.specs.List.{list_all}
use Rattle.std.specs.Str.{IsAscii}
use Rattle.std.specs.Char.{is_ascii_digit}
use Rattle.std.proofs.lemmas.List.{get_or-map, get_or_past, length-map, length-append}
use Rattle.std.proofs.lemmas.Bool.Decides.{nat_tests}
use Rattle.std.proofs.lemmas.Str.Ascii.{IsAscii-nil, IsAscii-cons}
use Rattle.lus_lexer.specs.declared.token.Token.{Token as Tok}
use Rattle.lus_lexer.specs.declared.token.Class.{Class}
use Rattle.lus_lexer.specs.declared.token.Class.TheVariants.{Ident, Number, Text}
use Rattle.lus_lexer.specs.declared.spelling.Lexeme.{Lexeme}
use Rattle.lus_lexer.specs.declared.spelling.Lexeme.TheVariants.{Token}
use Rattle.lus_lexer.specs.Table.{table}
use Rattle.lus_lexer.specs.Tokens.{In, is_word, is_plain, whole}
use Rattle.lus_lexer.specs.Laws.{Lie, HasText, fixed, name, number, text}
use Rattle.lus_lexer.proofs.Order.{in_order, taken}
use Rattle.lus_lexer.proofs.Slices.{text_of}
use Rattle.lus_lexer.proofs.Spans.{in_all, and_left, and_right}
use Rattle.lus_grammar.specs.Stream.{mark_of, end_mark, stream}
use Rattle.lus_grammar.specs.Source.{AreTokens}

lie_count : (b : List ℕ) (i : ℕ) (ts : List Tok) → Lie b i ts → i + length ts ≤ length b
lie_count b i [] h = omega (arith, h)
lie_count b i (t ∷ ts) h = let r = lie_count b t.to ts h.3 in omega (arith, h.0, h.1, r)

-- what the code reads where no token is
abbrev pub default : Tok
default = record { from = 0; to = 0; at = record { line = 0; column = 0 }; class = Ident }

-- each token has a byte
pub tokens_small : (b : List ℕ) (ts : List Tok) → AreTokens b ts → length ts ≤ length b
tokens_small b ts h = let r = lie_count b 0 ts (in_order b 0 ts whole h) in omega (arith, r)

lie_at : (b : List ℕ) (i : ℕ) (ts : List Tok) (k : ℕ) (d : Tok) → Lie b i ts → k < length ts → ((get_or ts k d).from < (get_or ts k d).to) ×
    ((get_or ts k d).to ≤ length b)
lie_at b i [] k d h l = absurd (omega (arith, l))
lie_at b i (t ∷ ts) zero d h l = (h.1, h.2)
lie_at b i (t ∷ ts) (suc k) d h l = lie_at b t.to ts k d h.3 (omega (arith, l))

pub span_at : (b : List ℕ) (ts : List Tok) (k : ℕ) (d : Tok) → AreTokens b ts → k < length ts → ((get_or ts k d).from < (get_or ts k d).to)
    × ((get_or ts k d).to ≤ length b)
span_at b ts k d h l = lie_at b 0 ts k d (in_order b 0 ts whole h) l

in_at : (ts : List Tok) (k : ℕ) (d : Tok) → k < length ts → In (get_or ts k d) ts
in_at [] k d l = absurd (omega (arith, l))
in_at (t ∷ ts) zero d l = inl refl
in_at (t ∷ ts) (suc k) d l = inr (in_at ts k d (omega (arith, l)))

pub mark_at : (b : List ℕ) (ts : List Tok) (k : ℕ) (d : Tok) → k < length ts → stream b ts k ≡ mark_of b (get_or ts k d)
unfolding stream
mark_at b ts k d l = get_or-map (mark_of b) ts k d (end_mark b) l

pub end_at : (b : List ℕ) (ts : List Tok) (k : ℕ) → length ts ≤ k → stream b ts k ≡ end_mark b
unfolding stream
end_at b ts k l = get_or_past (map (mark_of b) ts) k (end_mark b) (simp length-map (omega (arith, l)))

all_ascii : (f : ℕ → Bool) (w : List ℕ) → ((c : ℕ) → f c ≡ true → c < 128) → list_all f w ≡ true → IsAscii w
all_ascii f [] h a = IsAscii-nil
all_ascii f (c ∷ w) h a = IsAscii-cons c w (h c (and_left (f c) _ a)) (all_ascii f w h (and_right (f c) _ a))

word_ascii : (c : ℕ) → is_word c ≡ true → c < 128
word_ascii c h = grind (arith, nat_tests)

digit_ascii : (c : ℕ) → is_ascii_digit c ≡ true → c < 128
digit_ascii c h = grind (arith, nat_tests)

small_ascii : (c : ℕ) → nat_lt c 128 ≡ true → c < 128
small_ascii c h = grind (arith, nat_tests)

all_append : (f : ℕ → Bool) (v w : List ℕ) → list_all f v ≡ true → list_all f w ≡ true → list_all f (v ++ w) ≡ true
all_append f [] w a b = b
all_append f (c ∷ v) w a b = rw (and_left (f c) _ a) (all_append f v w (and_right (f c) _ a) b)

all_weaker : (f g : ℕ → Bool) (w : List ℕ) → ((c : ℕ) → f c ≡ true → g c ≡ true) → list_all f w ≡ true → list_all g w ≡ true
all_weaker f g [] h a = refl
all_weaker f g (c ∷ w) h a = rw (h c (and_left (f c) _ a)) (all_weaker f g w h (and_right (f c) _ a))

plain_small : (c : ℕ) → is_plain c ≡ true → nat_lt c 128 ≡ true
plain_small c h = grind (arith, nat_tests)

both_ways : (b : Bool) → b ≡ true → b ≡ false → ⊥
both_ways true h k = cc
both_ways false h k = cc

ident_text : Ident ≡ Text → ⊥
ident_text e = cc

number_text : Number ≡ Text → ⊥
number_text e = cc

some_class : (c d : Class) → Some c ≡ Some d → c ≡ d
some_class c d e = cc

-- is it no text?
abbrev is_other : Lexeme → Bool
is_other (Token Text) = false
is_other _ = true

table_ascii : list_all (λ r. list_all (λ c. nat_lt c 128) r.text && is_other r.is) table ≡ true
unfolding table
table_ascii = refl

has_ascii : (c : Class) (w : List ℕ) → HasText c w → IsAscii w
has_ascii c w (fixed r i e k) =
    let a : (list_all (λ c. nat_lt c 128) r.text && is_other r.is) ≡ true = in_all
    (λ r. list_all (λ c. nat_lt c 128) r.text && is_other r.is) r table table_ascii i in
    rw e (all_ascii (λ c. nat_lt c 128) r.text small_ascii (and_left _ (is_other r.is) a))
has_ascii c w (name l a out k) = all_ascii is_word w word_ascii a
has_ascii c w (number l a k) = all_ascii is_ascii_digit w digit_ascii a
has_ascii c w (text v e a k) = rw e (IsAscii-cons 34 _ (omega arith)
    (all_ascii (λ c. nat_lt c 128) (v ++ 34 ∷ []) small_ascii (all_append (λ c. nat_lt c 128) v (34 ∷ [])
    (all_weaker is_plain (λ c. nat_lt c 128) v plain_small a) refl)))

has_quotes : (c : Class) (w : List ℕ) → c ≡ Text → HasText c w → 2 ≤ length w
has_quotes c w t (fixed r i e k) =
    let a : (list_all (λ c. nat_lt c 128) r.text && is_other r.is) ≡ true = in_all
    (λ r. list_all (λ c. nat_lt c 128) r.text && is_other r.is) r table table_ascii i in
    let b : is_other r.is ≡ false = rw (k, t) refl in
    absurd (both_ways (is_other r.is) (and_right (list_all (λ c. nat_lt c 128) r.text) _ a) b)
has_quotes c w t (name l a out k) = absurd (ident_text (sym k ∙ t))
has_quotes c w t (number l a k) = absurd (number_text (sym k ∙ t))
has_quotes c w t (text v e a k) = rw e (simp length-append (omega arith))

has_at : (b : List ℕ) (ts : List Tok) (k : ℕ) (d : Tok) → AreTokens b ts → k < length ts → HasText (get_or ts k d).class
    (take ((get_or ts k d).to - (get_or ts k d).from) (drop (get_or ts k d).from b))
has_at b ts k d h l = let t = taken b 0 ts whole h (get_or ts k d) (in_at ts k d l) in text_of b (get_or ts k d).from (get_or ts k d).to
    (get_or ts k d).class t.longest.spells

pub ascii_at : (b : List ℕ) (ts : List Tok) (k : ℕ) (d : Tok) → AreTokens b ts → k < length ts → IsAscii
    (take ((get_or ts k d).to - (get_or ts k d).from) (drop (get_or ts k d).from b))
ascii_at b ts k d h l = has_ascii _ _ (has_at b ts k d h l)

pub quotes_at : (b : List ℕ) (ts : List Tok) (k : ℕ) → AreTokens b ts → k < length ts → (stream b ts k).class ≡ Some Text → 2 ≤ length (stream b ts k).text
quotes_at b ts k h l e =
    let m = mark_at b ts k default l in
    rw m (has_quotes (get_or ts k default).class _ (some_class _ _ (sym (ap (λ x. x.class) m) ∙ e)) (has_at b ts k default h l))

pub next_fits : (b : List ℕ) (ts : List Tok) (k : ℕ) → AreTokens b ts → length b ≤ 1048576 → k < length ts → Fits w32 (k + 1)
next_fits b ts k h s l = let t = tokens_small b ts h in omega (arith, s, l, t)
