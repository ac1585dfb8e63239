-- A source has one reading.
use Rattle.std.proofs.Common.{◌≡◌, ℕ, ◌+◌, ◌<◌, ◌≤◌, inl, inr, true, false, not, nat_le, ◌==◌, ◌&&◌, List, [], ◌∷◌, get_or, length, refl, sym, ap, ◌∙◌, subst, arith}
use Rattle.std.specs.List.{list_all}
use Rattle.std.specs.Char.{is_ascii_digit}
use Rattle.std.proofs.lemmas.Grind.{common_steps}
use Rattle.lus_lexer.specs.declared.token.Token.{Token as Tok}
use Rattle.lus_lexer.specs.declared.token.Class.TheVariants as C
use Rattle.lus_lexer.specs.declared.token.Class.{Class}
use Rattle.lus_tree.specs.declared.refusal.What.TheVariants.{BadByte, UnclosedComment, WideLiteral}
use Rattle.lus_lexer.specs.declared.spelling.Comment.{Comment}
use Rattle.lus_lexer.specs.declared.spelling.Comment.TheVariants.{Line, Round, Slash}
use Rattle.lus_lexer.specs.declared.spelling.Lexeme.{Lexeme}
use Rattle.lus_lexer.specs.declared.spelling.Lexeme.TheVariants.{Token, Opens}
use Rattle.lus_lexer.specs.Table.{Row, table}
use Rattle.lus_lexer.specs.Tokens.{byte, Stands, IsRow, IsNumber, IsText, Spells, row, name, number, text, is_word, is_letter, is_blank, Longest, NoneAt, EndsWith, EndsLine, Closes, IsWide, place, Ending, whole, fault, Lexes, finish, blank, comment, token, bad, open_end, wide}
use Rattle.lus_lexer.specs.Laws.{Same}
use Rattle.lus_lexer.proofs.Spans.{and_left, and_right, in_all, stands_length, span, span_within}
use Rattle.lus_lexer.proofs.Tables.{head, same_text, not_true}
use Rattle.lus_lexer.proofs.Longest.{both_ways, first_of, split_at, digit_word, letter_digit, letter_quote, digit_quote, quote_is}

digit_of : (s : ℕ → ℕ) (i j : ℕ) → IsNumber s i j → is_ascii_digit (s i) ≡ true
digit_of s i j h = first_of s is_ascii_digit i j h.some h.digits

number_row : (s : ℕ → ℕ) (i j j' : ℕ) (r : Row) → IsNumber s i j → IsRow s i j' r → Prim.⊥
number_row s i j j' r h k = elim (head s i j' r k) [
  | inl w ↦ letter_digit (s i) w.letter (digit_of s i j h)
  | inr w ↦ both_ways (is_word (s i)) (digit_word (s i) (digit_of s i j h)) w.other
]

text_row : (s : ℕ → ℕ) (i j j' : ℕ) (r : Row) → IsText s i j → IsRow s i j' r → Prim.⊥
text_row s i j j' r h k = elim (head s i j' r k) [
  | inl w ↦ letter_quote (s i) h.quote w.letter
  | inr w ↦ quote_is (s i) h.quote w.no_quote
]

same_cons : (b c : ℕ) (v w : List ℕ) → b ≡ c → v ≡ w → (b ∷ v) ≡ (c ∷ w)
same_cons b c v w e f = cc

stands_same : (s : ℕ → ℕ) (i j : ℕ) (v w : List ℕ) → Stands s i v j → Stands s i w j → v ≡ w
stands_same s i j [] [] h k = refl
stands_same s i j [] (c ∷ w) h k = let n = stands_length s (i + 1) w j k.1 in Prim.absurd (omega (arith, n, h))
stands_same s i j (b ∷ v) [] h k = let n = stands_length s (i + 1) v j h.1 in Prim.absurd (omega (arith, n, k))
stands_same s i j (b ∷ v) (c ∷ w) h k = same_cons b c v w (sym h.0 ∙ k.0) (stands_same s (i + 1) j v w h.1 k.1)

row_row : (s : ℕ → ℕ) (i j : ℕ) (r q : Row) → IsRow s i j r → IsRow s i j q → r.is ≡ q.is
row_row s i j r q h k = ap (λ (x : Row). x.is) (same_text r q h.listed k.listed (stands_same s i j r.text q.text h.stands k.stands))

one_class : (s : ℕ → ℕ) (i j : ℕ) (x y : Lexeme) → Spells s i j x → Spells s i j y → x ≡ y
one_class s i j x y (row r h e) (row q k f) = e ∙ row_row s i j r q h k ∙ sym f
one_class s i j x y (row r h e) (name k f) = Prim.absurd (k.no_row r h)
one_class s i j x y (row r h e) (number k f) = Prim.absurd (number_row s i j j r k h)
one_class s i j x y (row r h e) (text k f) = Prim.absurd (text_row s i j j r k h)
one_class s i j x y (name h e) (row q k f) = Prim.absurd (h.no_row q k)
one_class s i j x y (name h e) (name k f) = e ∙ sym f
one_class s i j x y (name h e) (number k f) = Prim.absurd (letter_digit (s i) h.letter (digit_of s i j k))
one_class s i j x y (name h e) (text k f) = Prim.absurd (letter_quote (s i) k.quote h.letter)
one_class s i j x y (number h e) (row q k f) = Prim.absurd (number_row s i j j q h k)
one_class s i j x y (number h e) (name k f) = Prim.absurd (letter_digit (s i) k.letter (digit_of s i j h))
one_class s i j x y (number h e) (number k f) = e ∙ sym f
one_class s i j x y (number h e) (text k f) = Prim.absurd (digit_quote (s i) k.quote (digit_of s i j h))
one_class s i j x y (text h e) (row q k f) = Prim.absurd (text_row s i j j q h k)
one_class s i j x y (text h e) (name k f) = Prim.absurd (letter_quote (s i) h.quote k.letter)
one_class s i j x y (text h e) (number k f) = Prim.absurd (digit_quote (s i) h.quote (digit_of s i j k))
one_class s i j x y (text h e) (text k f) = e ∙ sym f

pub record Alike (j j' : ℕ) (x x' : Lexeme) : Type 0 where
  pub end : j ≡ j'
  pub is : x ≡ x'

pub alike : (s : ℕ → ℕ) (i j j' : ℕ) (x x' : Lexeme) → Longest s i j x → Longest s i j' x' → Alike j j' x x'
alike s i j j' x x' h k =
    let a = h.longest j' x' k.spells in
    let b = k.longest j x h.spells in
    let e : j' ≡ j = omega (arith, a, b) in
    record { end = sym e; is = one_class s i j x x' h.spells (subst (λ (m : ℕ). Spells s i m x') e k.spells) }

-- no spelling begins with a blank
blank_letter : (b : ℕ) → is_letter b ≡ true → is_blank b ≡ false
blank_letter b h = grind (arith, common_steps)

blank_digit : (b : ℕ) → is_ascii_digit b ≡ true → is_blank b ≡ false
blank_digit b h = grind (arith, common_steps)

first_dark : list_all (λ r. nat_le 1 (length r.text) && not (is_blank (get_or r.text 0 0))) table ≡ true
unfolding table
first_dark = refl

stands_first : (s : ℕ → ℕ) (i j : ℕ) (w : List ℕ) → nat_le 1 (length w) ≡ true → Stands s i w j → s i ≡ get_or w 0 0
stands_first s i j [] h k = cc
stands_first s i j (c ∷ w) h k = k.0

pub dark : (s : ℕ → ℕ) (i j : ℕ) (x : Lexeme) → Spells s i j x → is_blank (s i) ≡ false
dark s i j x (row r h e) =
    let a = in_all (λ r. nat_le 1 (length r.text) && not (is_blank (get_or r.text 0 0))) r table first_dark h.listed in
    let f = stands_first s i j r.text (and_left (nat_le 1 (length r.text)) _ a) h.stands in
    rw f (not_true (is_blank (get_or r.text 0 0)) (and_right (nat_le 1 (length r.text)) _ a))
dark s i j x (name h e) = blank_letter (s i) h.letter
dark s i j x (number h e) = blank_digit (s i) (digit_of s i j h)
dark s i j x (text h e) = rw h.quote refl

-- a comment ends at one place
not_lf : (b : ℕ) → b ≡ 10 → not (b == 10) ≡ true → Prim.⊥
not_lf b e h = let k : not (10 == 10) ≡ true = subst (λ (x : ℕ). not (x == 10) ≡ true) e h in cc

line_over : (s : ℕ → ℕ) (n j k k' : ℕ) → EndsLine s n j k → EndsLine s n j k' → k' ≤ k
line_over s n j k k' h g = elim (split_at k' k) [ inl l ↦ l | inr l ↦ Prim.absurd (not_lf (s k) (h.last (omega (arith, l, g.within))) (g.inside k h.since l)) ]

pair_over : (s : ℕ → ℕ) (a b j k k' : ℕ) → EndsWith s a b j k → EndsWith s a b j k' → k' ≤ k
pair_over s a b j k k' h g = elim (split_at g.last h.last) [
  | inl l ↦ omega (arith, l, h.past, g.past)
  | inr l ↦ Prim.absurd
      (g.first h.last h.since l h.one h.other)
]

closes_over : (s : ℕ → ℕ) (n : ℕ) (c : Comment) (j k k' : ℕ) → Closes s n c j k → Closes s n c j k' → k' ≤ k
closes_over s n Line j k k' h g = line_over s n j k k' h g
closes_over s n Round j k k' h g = pair_over s 42 41 j k k' h g
closes_over s n Slash j k k' h g = pair_over s 42 47 j k k' h g

closes_same : (s : ℕ → ℕ) (n : ℕ) (c : Comment) (j k k' : ℕ) → Closes s n c j k → Closes s n c j k' → k' ≡ k
closes_same s n c j k k' h g = let a = closes_over s n c j k k' h g in let b = closes_over s n c j k' k g h in omega (arith, a, b)

-- ---- each rule alone can be the one

class_of : Lexeme → Class → Class
class_of (Token c) d = c
class_of (Opens c) d = d

comment_of : Lexeme → Comment → Comment
comment_of (Token c) d = d
comment_of (Opens c) d = c

token_class : (c d : Class) → Token c ≡ Token d → c ≡ d
token_class c d e = cc

opens_comment : (c d : Comment) → Opens c ≡ Opens d → c ≡ d
opens_comment c d e = cc

apart : (c : Class) (d : Comment) → Token c ≡ Opens d → Prim.⊥
apart c d e = cc

within : (b : List ℕ) (i j : ℕ) (x : Lexeme) → Longest (byte b) i j x → i < length b
within b i j x h = let m = span (byte b) i j x h.spells in let k = span_within b i j x h.spells in omega (arith, m.some, k)

no_blank : (b : List ℕ) (i j : ℕ) (x : Lexeme) → Longest (byte b) i j x → is_blank (byte b i) ≡ true → Prim.⊥
no_blank b i j x h k = both_ways (is_blank (byte b i)) k (dark (byte b) i j x h.spells)

abbrev L : List ℕ → ℕ → List Tok → Ending → Type 0
L b i ts e = Lexes (byte b) (length b) i ts e

at_end : (b : List ℕ) (i : ℕ) (ts : List Tok) (e : Ending) → i ≡ length b → L b i ts e → Same [] ts whole e
at_end b i ts e z (finish _) = record { tokens = refl; ending = refl }
at_end b i ts e z (blank l _ _) = Prim.absurd (omega (arith, z, l))
at_end b i ts e z (comment {j = j} {c = c} h _ _) = let w = within b i j (Opens c) h in Prim.absurd (omega (arith, z, w))
at_end b i ts e z (token {j = j} {c = c} h _ _) = let w = within b i j (Token c) h in Prim.absurd (omega (arith, z, w))
at_end b i ts e z (bad l _ _) = Prim.absurd (omega (arith, z, l))
at_end b i ts e z (open_end {j = j} {c = c} h _) = let w = within b i j (Opens c) h in Prim.absurd (omega (arith, z, w))
at_end b i ts e z (wide {j = j} h _) = let w = within b i j (Token C.Number) h in Prim.absurd (omega (arith, z, w))

at_blank : (b : List ℕ) (i : ℕ) (ts : List Tok) (e : Ending) → i < length b → is_blank (byte b i) ≡ true → L b i ts e → L b (i + 1) ts e
at_blank b i ts e l k (finish z) = Prim.absurd (omega (arith, z, l))
at_blank b i ts e l k (blank _ _ r) = r
at_blank b i ts e l k (comment {j = j} {c = c} h _ _) = Prim.absurd (no_blank b i j (Opens c) h k)
at_blank b i ts e l k (token {j = j} {c = c} h _ _) = Prim.absurd (no_blank b i j (Token c) h k)
at_blank b i ts e l k (bad _ d _) = Prim.absurd (both_ways (is_blank (byte b i)) k d)
at_blank b i ts e l k (open_end {j = j} {c = c} h _) = Prim.absurd (no_blank b i j (Opens c) h k)
at_blank b i ts e l k (wide {j = j} h _) = Prim.absurd (no_blank b i j (Token C.Number) h k)

at_bad : (b : List ℕ) (i : ℕ) (ts : List Tok) (e : Ending) → i < length b → is_blank (byte b i) ≡ false → NoneAt (byte b) i → L b i ts e
    → Same [] ts (fault (place (byte b) i) BadByte) e
at_bad b i ts e l d u (finish z) = Prim.absurd (omega (arith, z, l))
at_bad b i ts e l d u (blank _ k _) = Prim.absurd (both_ways (is_blank (byte b i)) k d)
at_bad b i ts e l d u (comment {j = j} {c = c} h _ _) = Prim.absurd (u j (Opens c) h.spells)
at_bad b i ts e l d u (token {j = j} {c = c} h _ _) = Prim.absurd (u j (Token c) h.spells)
at_bad b i ts e l d u (bad _ _ _) = record { tokens = refl; ending = refl }
at_bad b i ts e l d u (open_end {j = j} {c = c} h _) = Prim.absurd (u j (Opens c) h.spells)
at_bad b i ts e l d u (wide {j = j} h _) = Prim.absurd (u j (Token C.Number) h.spells)

-- at a comment
pub data AtComment (b : List ℕ) (i j : ℕ) (c : Comment) (ts : List Tok) (e : Ending) : Type 0 where
  closed : (k : ℕ) → Closes (byte b) (length b) c j k → L b k ts e → AtComment b i j c ts e
  unclosed : ((k : ℕ) → Closes (byte b) (length b) c j k → Prim.⊥) → Same [] ts (fault (place (byte b) i) UnclosedComment) e → AtComment b i j c ts e

at_comment : (b : List ℕ) (i j : ℕ) (c : Comment) (ts : List Tok) (e : Ending) → Longest (byte b) i j (Opens c) → L b i ts e → AtComment b i j c ts e
at_comment b i j c ts e g (finish z) = let w = within b i j (Opens c) g in Prim.absurd (omega (arith, z, w))
at_comment b i j c ts e g (blank _ k _) = Prim.absurd (no_blank b i j (Opens c) g k)
at_comment b i j c ts e g (comment {j = j'} {k = k} {c = d} h m r) =
    let a = alike (byte b) i j j' (Opens c) (Opens d) g h in
    let m' : Closes (byte b) (length b) c j' k = subst (λ (x : Comment). Closes (byte b) (length b) x j' k) (sym (opens_comment c d a.is)) m in
    closed k (subst (λ (x : ℕ). Closes (byte b) (length b) c x k) (sym a.end) m') r
at_comment b i j c ts e g (token {j = j'} {c = d} h _ _) = let a = alike (byte b) i j' j (Token d) (Opens c) h g in Prim.absurd (apart d c a.is)
at_comment b i j c ts e g (bad _ _ u) = Prim.absurd (u j (Opens c) g.spells)
at_comment b i j c ts e g (open_end {j = j'} {c = d} h m) =
    let a = alike (byte b) i j j' (Opens c) (Opens d) g h in
    unclosed (λ k q. m k (subst (λ (x : Comment). Closes (byte b) (length b) x j' k) (opens_comment c d a.is)
    (subst (λ (x : ℕ). Closes (byte b) (length b) c x k) a.end q))) (record { tokens = refl; ending = refl })
at_comment b i j c ts e g (wide {j = j'} h _) = let a = alike (byte b) i j' j (Token C.Number) (Opens c) h g in Prim.absurd (apart C.Number c a.is)

-- at a token
abbrev one : (b : List ℕ) (i j : ℕ) (c : Class) → Tok
one b i j c = record { from = i; to = j; at = place (byte b) i; class = c }

pub data AtToken (b : List ℕ) (i j : ℕ) (c : Class) (ts : List Tok) (e : Ending) : Type 0 where
  taken : (us : List Tok) → (c ≡ C.Number → IsWide (byte b) i j → Prim.⊥) → ts ≡ one b i j c ∷ us → L b j us e → AtToken b i j c ts e
  past : c ≡ C.Number → IsWide (byte b) i j → Same [] ts (fault (place (byte b) i) WideLiteral) e → AtToken b i j c ts e

at_token : (b : List ℕ) (i j : ℕ) (c : Class) (ts : List Tok) (e : Ending) → Longest (byte b) i j (Token c) → L b i ts e → AtToken b i j c ts e
at_token b i j c ts e g (finish z) = let w = within b i j (Token c) g in Prim.absurd (omega (arith, z, w))
at_token b i j c ts e g (blank _ k _) = Prim.absurd (no_blank b i j (Token c) g k)
at_token b i j c ts e g (comment {j = j'} {c = d} h _ _) = let a = alike (byte b) i j j' (Token c) (Opens d) g h in Prim.absurd (apart c d a.is)
at_token b i j c ts e g (token {j = j'} {c = d} {ts = us} h m r) =
    let a = alike (byte b) i j j' (Token c) (Token d) g h in
    let q : c ≡ d = token_class c d a.is in
    taken us (λ n w. m (sym q ∙ n) (subst (λ (x : ℕ). IsWide (byte b) i x) a.end w)) (rw (a.end, q) refl) (subst (λ (x : ℕ). L b x us e) (sym a.end) r)
at_token b i j c ts e g (bad _ _ u) = Prim.absurd (u j (Token c) g.spells)
at_token b i j c ts e g (open_end {j = j'} {c = d} h m) = let a = alike (byte b) i j j' (Token c) (Opens d) g h in Prim.absurd (apart c d a.is)
at_token b i j c ts e g (wide {j = j'} h w) =
    let a = alike (byte b) i j j' (Token c) (Token C.Number) g h in
    past (token_class c C.Number a.is) (subst (λ (x : ℕ). IsWide (byte b) i x) (sym a.end) w) (record { tokens = refl; ending = refl })

same_back : (ts ts' us : List Tok) (e e' : Ending) (t : Tok) → ts' ≡ t ∷ us → Same ts us e e' → Same (t ∷ ts) ts' e e'
same_back ts ts' us e e' t q h = record { tokens = rw (q, h.tokens) refl; ending = h.ending }

pub one_reading : (b : List ℕ) (i : ℕ) (ts ts' : List Tok) (e e' : Ending) → L b i ts e → L b i ts' e' → Same ts ts' e e'
one_reading b i ts ts' e e' (finish z) y = at_end b i ts' e' z y
one_reading b i ts ts' e e' (blank l k r) y = one_reading b (i + 1) ts ts' e e' r (at_blank b i ts' e' l k y)
one_reading b i ts ts' e e' (comment {j = j} {k = k} {c = c} h m r) y = elim (at_comment b i j c ts' e' h y) [
  | closed k' m' r' ↦ one_reading b k ts ts' e e' r (subst (λ (x : ℕ). L b x ts' e') (closes_same (byte b) (length b) c j k k' m m') r')
  | unclosed u _ ↦ Prim.absurd (u k m)
]
one_reading b i ts ts' e e' (token {j = j} {c = c} {ts = us} h m r) y = elim (at_token b i j c ts' e' h y) [
  | taken vs _ q r' ↦ same_back us ts' vs e e' (one b i j c) q (one_reading b j us vs e e' r r')
  | past n w _ ↦ Prim.absurd (m n w)
]
one_reading b i ts ts' e e' (bad l d u) y = at_bad b i ts' e' l d u y
one_reading b i ts ts' e e' (open_end {j = j} {c = c} h m) y = elim (at_comment b i j c ts' e' h y) [
  | closed k' m' _ ↦ Prim.absurd (m k' m')
  | unclosed _ q ↦ q
]
one_reading b i ts ts' e e' (wide {j = j} h w) y = elim (at_token b i j C.Number ts' e' h y) [
  | taken _ m _ _ ↦ Prim.absurd (m refl w)
  | past _ _ q ↦ q
]
