-- The marks of a source, by its tokens.
use Rattle.std.proofs.Common.{◌≡◌, ℕ, zero, suc, inl, inr, true, false, List, [], ◌∷◌, Some, map, get_or, refl, sym, subst}
use Rattle.lus_lexer.specs.declared.token.Token.{Token as Tok}
use Rattle.lus_lexer.specs.declared.token.Class.{Class}
use Rattle.lus_lexer.specs.declared.spelling.Lexeme.{Lexeme}
use Rattle.lus_lexer.specs.declared.spelling.Lexeme.TheVariants.{Token}
use Rattle.lus_lexer.specs.Table.{Row, table}
use Rattle.lus_lexer.specs.Tokens.{In, whole}
use Rattle.lus_lexer.specs.Laws.{HasText, slice}
use Rattle.lus_lexer.proofs.Spans.{in_all}
use Rattle.lus_lexer.proofs.Longest.{both_ways}
use Rattle.lus_lexer.proofs.Order.{taken}
use Rattle.lus_lexer.proofs.Rules.{is_fixed, all_fixed}
use Rattle.lus_lexer.proofs.Slices.{text_of}
use Rattle.lus_grammar.specs.Stream.{mark_of, end_mark, stream}
use Rattle.lus_grammar.specs.Source.{AreTokens}

-- what holds of the slices of a class's tokens
abbrev OfTokens : List ℕ → List Tok → Class → (List ℕ → Type 0) → Type 0
OfTokens bytes ts c P = (t : Tok) → In t ts → t.class ≡ c → P (slice bytes t)

marked : (bytes : List ℕ) (ts : List Tok) (c : Class) (P : List ℕ → Type 0) → OfTokens bytes ts c P → (k : ℕ) →
    (get_or (map (mark_of bytes) ts) k (end_mark bytes)).class ≡ Some c →
    P (get_or (map (mark_of bytes) ts) k (end_mark bytes)).text
marked bytes [] c P h k e = absurd (cc)
marked bytes (t ∷ ts) c P h zero e = h t (inl refl) (cc)
marked bytes (t ∷ ts) c P h (suc k) e = marked bytes ts c P (λ u i. h u (inr i)) k e

-- holds of the texts of its marks
pub at_marks : (bytes : List ℕ) (ts : List Tok) (c : Class) (P : List ℕ → Type 0) → OfTokens bytes ts c P → (k : ℕ) →
    (stream bytes ts k).class ≡ Some c → P (stream bytes ts k).text
unfolding stream
at_marks bytes ts c P h k e = marked bytes ts c P h k e

pub has_text : (bytes : List ℕ) (ts : List Tok) (t : Tok) → AreTokens bytes ts → In t ts →
    HasText t.class (slice bytes t)
has_text bytes ts t h i = text_of bytes t.from t.to t.class (taken bytes 0 ts whole h t i).longest.spells

-- the table has no name, no number and no text
pub not_listed : (c d : Class) (r : Row) → c ≡ d → is_fixed (Token d) ≡ false → In r table → r.is ≡ Token c → Prim.⊥
not_listed c d r q e i f =
    let a : is_fixed r.is ≡ true = in_all (λ r. is_fixed r.is) r table all_fixed i in
    let b : is_fixed (Token c) ≡ false = subst (λ (x : Class). is_fixed (Token x) ≡ false) (sym q) e in
    both_ways (is_fixed r.is) a (subst (λ (x : Lexeme). is_fixed x ≡ false) (sym f) b)
