-- The rules, with the place that the code knows.
use Rattle.std.proofs.Common.{◌≡◌, ℕ, ◌+◌, ◌<◌, Bool, true, false, List, [], ◌∷◌, refl, subst}
use Rattle.std.specs.List.{list_all}
use Rattle.lus_tree.specs.declared.place.Pos.{Pos}
use Rattle.lus_tree.specs.declared.refusal.What.{What}
use Rattle.lus_lexer.specs.declared.token.Token.{Token as Tok}
use Rattle.lus_tree.specs.declared.refusal.What.TheVariants.{BadByte, UnclosedComment, WideLiteral}
use Rattle.lus_lexer.specs.declared.token.Class.{Class}
use Rattle.lus_lexer.specs.declared.token.Class.TheVariants.{Ident, Number, Text}
use Rattle.lus_lexer.specs.declared.spelling.Comment.{Comment}
use Rattle.lus_lexer.specs.declared.spelling.Lexeme.{Lexeme}
use Rattle.lus_lexer.specs.declared.spelling.Lexeme.TheVariants.{Token, Opens}
use Rattle.lus_lexer.specs.Table.{table}
use Rattle.lus_lexer.specs.Tokens.{Lexes, Ending, fault, blank, comment, token, bad, open_end, wide, place, Longest, NoneAt, Closes, IsWide, is_blank, Spells, row, name, number, text, IsNumber}
use Rattle.lus_lexer.proofs.Spans.{in_all}
use Rattle.lus_lexer.proofs.Longest.{both_ways}

fault_at : (s : ℕ → ℕ) (n i : ℕ) (p q : Pos) (w v : What) → p ≡ place s i → q ≡ p → w ≡ v → Lexes s n i [] (fault (place s i) v) → Lexes s n i [] (fault q w)
fault_at s n i p q w v e f g h = rw (f, e, g) h

pub blank_at : (s : ℕ → ℕ) (n i j : ℕ) (ts : List Tok) (e : Ending) → i < n → is_blank (s i) ≡ true → j ≡ i + 1 → Lexes s n j ts e → Lexes s n i ts e
blank_at s n i j ts e l b f h = blank l b (subst (λ (x : ℕ). Lexes s n x ts e) f h)

pub bad_at : (s : ℕ → ℕ) (n i : ℕ) (p q : Pos) (w : What) → p ≡ place s i → q ≡ p → w ≡ BadByte → i < n → is_blank (s i) ≡ false
    → NoneAt s i → Lexes s n i [] (fault q w)
bad_at s n i p q w e f g l b h = fault_at s n i p q w BadByte e f g (bad l b h)

pub open_at : (s : ℕ → ℕ) (n i j k : ℕ) (c : Comment) (p q : Pos) (w : What) → p ≡ place s i → q ≡ p → w ≡ UnclosedComment → Longest s i j
    (Opens c) → k ≡ j → ((m : ℕ) → Closes s n c k m → Prim.⊥) → Lexes s n i [] (fault q w)
open_at s n i j k c p q w e f g l d h = fault_at s n i p q w UnclosedComment e f g (open_end l (subst (λ (x : ℕ). (m : ℕ) → Closes s n c x m → Prim.⊥) d h))

pub wide_at : (s : ℕ → ℕ) (n i j : ℕ) (p q : Pos) (w : What) → p ≡ place s i → q ≡ p → w ≡ WideLiteral → Longest s i j (Token Number)
    → IsWide s i j → Lexes s n i [] (fault q w)
wide_at s n i j p q w e f g l h = fault_at s n i p q w WideLiteral e f g (wide l h)

pub comment_at : (s : ℕ → ℕ) (n i j j' k : ℕ) (c : Comment) (ts : List Tok) (e : Ending) → Longest s i j (Opens c) → j' ≡ j
    → Closes s n c j' k → Lexes s n k ts e → Lexes s n i ts e
comment_at s n i j j' k c ts e l d h r = comment l (subst (λ (x : ℕ). Closes s n c x k) d h) r

pub token_at : (s : ℕ → ℕ) (n i j j' : ℕ) (c : Class) (p : Pos) (ts : List Tok) (e : Ending) → p ≡ place s i → Longest s i j (Token c) →
    (c ≡ Number → IsWide s i j → Prim.⊥) → j' ≡ j → Lexes s n j' ts e → Lexes s n i (record { from = i; to = j; at = p; class = c } ∷ ts) e
token_at s n i j j' c p ts e f l w d h = rw f (token l w (subst (λ (x : ℕ). Lexes s n x ts e) d h))

-- is it of the table, and no name, number or text?
abbrev pub is_fixed : Lexeme → Bool
is_fixed (Token Ident) = false
is_fixed (Token Number) = false
is_fixed (Token Text) = false
is_fixed _ = true

pub all_fixed : list_all (λ r. is_fixed r.is) table ≡ true
unfolding table
all_fixed = refl

ident_number : Token Number ≡ Token Ident → Prim.⊥
ident_number e = cc

text_number : Token Number ≡ Token Text → Prim.⊥
text_number e = cc

pub is_number : (s : ℕ → ℕ) (i j : ℕ) → Spells s i j (Token Number) → IsNumber s i j
is_number s i j (row r h e) =
    let a : is_fixed r.is ≡ true = in_all (λ r. is_fixed r.is) r table all_fixed h.listed in
    let b : is_fixed r.is ≡ false = subst (λ (x : Lexeme). is_fixed x ≡ false) e refl in
    Prim.absurd (both_ways (is_fixed r.is) a b)
is_number s i j (name h e) = Prim.absurd (ident_number e)
is_number s i j (number h e) = h
is_number s i j (text h e) = Prim.absurd (text_number e)
