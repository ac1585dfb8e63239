-- The texts of tokens.
use Rattle.std.proofs.Common.{◌≡◌, ℕ, zero, suc, ◌+◌, ◌-◌, ◌*◌, ◌<◌, ◌≤◌, inl, inr, Bool, true, ◌&&◌, nat_lt, List, [], ◌∷◌, ◌++◌, length, take, drop, get_or, refl, sym, ap, ◌∙◌, subst, arith}
use Rattle.std.specs.List.{list_all}
use Rattle.std.specs.Str.{IsAscii, IsUtf8}
use Rattle.std.specs.Char.{is_ascii_digit}
use Rattle.std.proofs.lemmas.Grind.{common_steps}
use Rattle.std.proofs.lemmas.List.{get_or-take, get_or-drop, length-take-le, length-drop}
use Rattle.std.proofs.lemmas.List.Folds.{list_all-append}
use Rattle.std.proofs.lemmas.Str.{IsUtf8-from_ascii}
use Rattle.std.proofs.lemmas.Str.Ascii.{IsAscii-from_all}
use Rattle.std.proofs.lemmas.List.Sums.{AllPass-from_list_all}
use Rattle.std.specs.List.{All}
use Rattle.lus_lexer.specs.declared.token.Token.{Token as Tok}
use Rattle.lus_lexer.specs.declared.token.Class.{Class}
use Rattle.lus_lexer.specs.declared.token.Class.TheVariants.{Ident, Number}
use Rattle.lus_lexer.specs.Table.{Row, table}
use Rattle.lus_lexer.specs.Tokens.{byte, In, value, whole, is_word, is_plain}
use Rattle.lus_lexer.specs.Laws.{Lie, HasText, fixed, name, number, text, slice}
use Rattle.lus_lexer.proofs.Order.{in_order, taken, small_value, IsTaken}
use Rattle.lus_lexer.proofs.Slices.{text_of}
use Rattle.lus_lexer.proofs.Spans.{in_all, and_left, and_right}
use Rattle.lus_grammar.specs.Stream.{Mark, stream}
use Rattle.lus_grammar.specs.Trees.{digits_value}
use Rattle.lus_reader.specs.Look.{AreFirst}
use Rattle.lus_reader.proofs.Streams.{stream_inside}

lies_at : (b : List ℕ) (i : ℕ) (ts rest : List Tok) (k : ℕ) (d : Tok) → Lie b i (ts ++ rest) → k < length ts →
    ((get_or ts k d).from < (get_or ts k d).to) × ((get_or ts k d).to ≤ length b)
lies_at b i [] rest k d h l = absurd (omega (arith, l))
lies_at b i (t ∷ ts) rest zero d h l = (h.1, h.2)
lies_at b i (t ∷ ts) rest (suc k) d h l = lies_at b t.to ts rest k d h.3 (omega (arith, l))

in_first : (ts rest : List Tok) (k : ℕ) (d : Tok) → k < length ts → In (get_or ts k d) (ts ++ rest)
in_first [] rest k d l = absurd (omega (arith, l))
in_first (t ∷ ts) rest zero d l = inl refl
in_first (t ∷ ts) rest (suc k) d l = inr (in_first ts rest k d (omega (arith, l)))

-- the token that an index past the end would read
abbrev pub no_token : Tok
no_token = record { from = 0; to = 0; at = record { line = 0; column = 0 }; class = Ident }

-- a token lies inside the bytes
pub lies : (b : List ℕ) (ts : List Tok) (k : ℕ) (d : Tok) → AreFirst b ts → k < length ts → ((get_or ts k d).from < (get_or ts k d).to) ×
    ((get_or ts k d).to ≤ length b)
lies b ts k d h l = lies_at b 0 ts h.rest k d (in_order b 0 (ts ++ h.rest) whole h.cut) l

is_taken : (b : List ℕ) (ts : List Tok) (k : ℕ) (d : Tok) → AreFirst b ts → k < length ts → IsTaken b (get_or ts k d)
is_taken b ts k d h l = taken b 0 (ts ++ h.rest) whole h.cut (get_or ts k d) (in_first ts h.rest k d l)

has_text : (b : List ℕ) (ts : List Tok) (k : ℕ) (d : Tok) → AreFirst b ts → k < length ts → HasText (get_or ts k d).class (slice b (get_or ts k d))
has_text b ts k d h l = text_of b (get_or ts k d).from (get_or ts k d).to (get_or ts k d).class (is_taken b ts k d h l).longest.spells

abbrev low : ℕ → Bool
low b = nat_lt b 128

abbrev low_row : Row → Bool
low_row r = list_all low r.text

rows_low : list_all low_row table ≡ true
unfolding table
rows_low = refl

word_low : (b : ℕ) → is_word b ≡ true → low b ≡ true
word_low b h = grind (arith, common_steps)

digit_low : (b : ℕ) → is_ascii_digit b ≡ true → low b ≡ true
digit_low b h = grind (arith, common_steps)

plain_low : (b : ℕ) → is_plain b ≡ true → low b ≡ true
plain_low b h = grind (arith, common_steps)

both_true : (a b : Bool) → a ≡ true → b ≡ true → (a && b) ≡ true
both_true a b h k = rw (h, k) refl

all_low : (f : ℕ → Bool) → ((b : ℕ) → f b ≡ true → low b ≡ true) → (w : List ℕ) → list_all f w ≡ true → list_all low w ≡ true
all_low f g [] h = refl
all_low f g (b ∷ w) h = both_true (low b) (list_all low w) (g b (and_left (f b) _ h)) (all_low f g w (and_right (f b) _ h))

text_low : (c : Class) (w : List ℕ) → HasText c w → list_all low w ≡ true
text_low c w (fixed r i e q) = rw e (in_all low_row r table rows_low i)
text_low c w (name a b d e) = all_low is_word word_low w b
text_low c w (number a b e) = all_low is_ascii_digit digit_low w b
text_low c w (text v e a q) =
    let h : list_all low (v ++ 34 ∷ []) ≡ true = list_all-append low v (34 ∷ []) ∙ both_true (list_all low v) true (all_low is_plain plain_low v a) refl in
    rw e h

below : (b : ℕ) → low b ≡ true → b < 128
below b h = grind (arith, common_steps)

all_below : (w : List ℕ) → list_all low w ≡ true → All (λ b. b < 128) w
all_below w h = λ k d l. below (get_or w k d) (AllPass-from_list_all low w h k d l)

ascii : (w : List ℕ) → list_all low w ≡ true → IsAscii w
ascii w h = IsAscii-from_all w (all_below w h)

-- the text of a token is its slice, and ASCII
pub text_is : (b : List ℕ) (ts : List Tok) (k : ℕ) (d : Tok) → k < length ts → (stream b ts k).text ≡ slice b (get_or ts k d)
text_is b ts k d l = ap (λ (m : Mark). m.text) (stream_inside b ts k d l)

pub utf8 : (b : List ℕ) (ts : List Tok) (k : ℕ) (d : Tok) → AreFirst b ts → k < length ts → IsUtf8 (stream b ts k).text
utf8 b ts k d h l = rw (text_is b ts k d l) (IsUtf8-from_ascii (slice b (get_or ts k d))
    (ascii (slice b (get_or ts k d)) (text_low (get_or ts k d).class (slice b (get_or ts k d)) (has_text b ts k d h l))))

-- the value of digits is that of their slice
same_value : (b : List ℕ) (i n k : ℕ) → k ≤ n → value (byte (take n (drop i b))) 0 k ≡ value (byte b) i k
same_value b i n zero l = refl
same_value b i n (suc k) l =
    let r = same_value b i n k (omega (arith, l)) in
    let z : 0 + k ≡ k = omega arith in
    let e : byte (take n (drop i b)) (0 + k) ≡ byte b (i + k) = ap (byte (take n (drop i b))) z ∙ get_or-take n (drop i b) k 0
    (omega (arith, l)) ∙ get_or-drop i b k 0 in
    ap (λ (x : ℕ). 10 * x + (byte (take n (drop i b)) (0 + k) - 48)) r ∙ ap (λ (x : ℕ). 10 * value (byte b) i k + (x - 48)) e

slice_length : (b : List ℕ) (t : Tok) → t.from < t.to → t.to ≤ length b → length (slice b t) ≡ t.to - t.from
slice_length b t l h = length-take-le (t.to - t.from) (drop t.from b) (omega (arith, length-drop t.from b, l, h))

pub fits : (b : List ℕ) (ts : List Tok) (k : ℕ) (d : Tok) → AreFirst b ts → k < length ts → (get_or ts k d).class ≡ Number → digits_value
    (stream b ts k).text ≤ 9223372036854775807
fits b ts k d h l e =
    let t : Tok = get_or ts k d in
    let m = lies b ts k d h l in
    let v : value (byte b) t.from (t.to - t.from) ≤ 9223372036854775807 = small_value (byte b) t.from t.to ((is_taken b ts k d h l).fits e) in
    let w : value (byte (slice b t)) 0 (length (slice b t)) ≡ value (byte b) t.from (t.to - t.from) = rw (slice_length b t m.0 m.1)
    (same_value b t.from (t.to - t.from) (t.to - t.from) (omega arith)) in
    rw (text_is b ts k d l, w) v

value_grows : (s : ℕ → ℕ) (i k d : ℕ) → value s i k ≤ value s i (k + d)
value_grows s i k zero = let e : k + 0 ≡ k = omega arith in rw e (omega arith)
value_grows s i k (suc d) = let e : k + suc d ≡ suc (k + d) = omega arith in let r = value_grows s i k d in rw e (omega (arith, r))

-- the value of the digits up to one that was read, and with it
pub digit_read : (s : ℕ → ℕ) (k n b : ℕ) → k < n → b ≡ s k → (10 * value s 0 k + (b - 48) ≡ value s 0 (k + 1)) × (value s 0 (k + 1) ≤ value s 0 n)
digit_read s k n b l e =
    let z : 0 + k ≡ k = omega arith in
    let o : suc k ≡ k + 1 = omega arith in
    let q : suc k + (n - suc k) ≡ n = omega arith in
    let g : value s 0 (suc k) ≤ value s 0 n = subst (λ (x : ℕ). value s 0 (suc k) ≤ value s 0 x) q (value_grows s 0 (suc k) (n - suc k)) in
    let f : 10 * value s 0 k + (b - 48) ≡ value s 0 (suc k) = ap (λ (x : ℕ). 10 * value s 0 k + (x - 48)) (e ∙ ap s (sym z)) in
    (subst (λ (x : ℕ). 10 * value s 0 k + (b - 48) ≡ value s 0 x) o f, subst (λ (x : ℕ). value s 0 x ≤ value s 0 n) o g)
