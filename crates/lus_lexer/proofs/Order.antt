-- What holds of each token of a reading.
use Rattle.std.proofs.Common.{◌≡◌, ℕ, ◌+◌, ◌-◌, ◌≤◌, inl, inr, List, [], ◌∷◌, length, refl, sym, subst, arith}
use Rattle.lus_tree.specs.declared.place.Pos.{Pos}
use Rattle.lus_tree.specs.declared.refusal.What.{What}
use Rattle.lus_lexer.specs.declared.token.Token.{Token as Tok}
use Rattle.lus_lexer.specs.declared.spelling.Comment.{Comment}
use Rattle.lus_lexer.specs.declared.spelling.Comment.TheVariants.{Line, Round, Slash}
use Rattle.lus_lexer.specs.declared.token.Class.TheVariants.{Number}
use Rattle.lus_lexer.specs.declared.spelling.Lexeme.TheVariants.{Token, Opens}
use Rattle.lus_lexer.specs.Tokens.{byte, In, place, value, IsWide, Longest, Closes, Ending, whole, fault, Lexes, finish, blank, comment, token, bad, open_end, wide}
use Rattle.lus_lexer.specs.Laws.{Lie, Between, nothing, blank_then, comment_then, Apart}
use Rattle.lus_lexer.proofs.Spans.{span, span_within}
use Rattle.lus_lexer.proofs.Longest.{split_at}

closes_since : (s : ℕ → ℕ) (n : ℕ) (c : Comment) (j k : ℕ) → Closes s n c j k → j ≤ k
closes_since s n Line j k h = h.since
closes_since s n Round j k h = omega (arith, h.since, h.past)
closes_since s n Slash j k h = omega (arith, h.since, h.past)

lie_from : (b : List ℕ) (i j : ℕ) (ts : List Tok) → i ≤ j → Lie b j ts → Lie b i ts
lie_from b i j [] l h = omega (arith, l, h)
lie_from b i j (t ∷ ts) l h = (omega (arith, l, h.0), h.1, h.2, h.3)

pub in_order : (b : List ℕ) (i : ℕ) (ts : List Tok) (e : Ending) → Lexes (byte b) (length b) i ts e → Lie b i ts
in_order b i ts e (finish z) = omega (arith, z)
in_order b i ts e (blank l k r) = lie_from b i (i + 1) ts (omega arith) (in_order b (i + 1) ts e r)
in_order b i ts e (comment {j = j} {k = k} {c = c} h m r) =
    let p = span (byte b) i j (Opens c) h.spells in
    let q = closes_since (byte b) (length b) c j k m in
    lie_from b i k ts (omega (arith, p.some, q)) (in_order b k ts e r)
in_order b i ts e (token {j = j} {c = c} {ts = us} h m r) =
    let p = span (byte b) i j (Token c) h.spells in
    let q = span_within b i j (Token c) h.spells in
    (omega arith, p.some, q, in_order b j us e r)
in_order b i ts e (bad l d u) = omega (arith, l)
in_order b i ts e (open_end {j = j} {c = c} h m) = let p = span (byte b) i j (Opens c) h.spells in let q = span_within b i j
    (Opens c) h.spells in omega (arith, p.some, q)
in_order b i ts e (wide {j = j} h w) = let p = span (byte b) i j (Token Number) h.spells in let q = span_within b i j
    (Token Number) h.spells in omega (arith, p.some, q)

-- what the rule for a token asks of it
pub record IsTaken (b : List ℕ) (t : Tok) : Type 0 where
  pub at : t.at ≡ place (byte b) t.from
  pub longest : Longest (byte b) t.from t.to (Token t.class)
  pub fits : t.class ≡ Number → IsWide (byte b) t.from t.to → Prim.⊥

abbrev AllTaken : List ℕ → List Tok → Type 0
AllTaken b ts = (t : Tok) → In t ts → IsTaken b t

taken_first : (b : List ℕ) (u : Tok) (ts : List Tok) → IsTaken b u → AllTaken b ts → AllTaken b (u ∷ ts)
taken_first b u ts h k t (inl e) = subst (IsTaken b) (sym e) h
taken_first b u ts h k t (inr i) = k t i

pub taken : (b : List ℕ) (i : ℕ) (ts : List Tok) (e : Ending) → Lexes (byte b) (length b) i ts e → AllTaken b ts
taken b i ts e (finish z) = λ t k. Prim.absurd k
taken b i ts e (blank l k r) = taken b (i + 1) ts e r
taken b i ts e (comment {k = k} h m r) = taken b k ts e r
taken b i ts e (token {j = j} {c = c} {ts = us} h m r) = taken_first b (record { from = i; to = j; at = place (byte b) i; class = c }) us
    (record { at = refl; longest = h; fits = m }) (taken b j us e r)
taken b i ts e (bad l d u) = λ t k. Prim.absurd k
taken b i ts e (open_end h m) = λ t k. Prim.absurd k
taken b i ts e (wide h w) = λ t k. Prim.absurd k

below : (v : ℕ) → (9223372036854775808 ≤ v → Prim.⊥) → v ≤ 9223372036854775807
below v h = elim (split_at 9223372036854775808 v) [ inl l ↦ Prim.absurd (h l) | inr g ↦ omega (arith, g) ]

pub small_value : (s : ℕ → ℕ) (i j : ℕ) → (IsWide s i j → Prim.⊥) → value s i (j - i) ≤ 9223372036854775807
unfolding IsWide
small_value s i j h = below (value s i (j - i)) h

apart_from : (b : List ℕ) (i k : ℕ) (ts : List Tok) → ((m : ℕ) → Between b k m → Between b i m) → Apart b k ts → Apart b i ts
apart_from b i k [] f h = f (length b) h
apart_from b i k (t ∷ ts) f h = (f t.from h.0, h.1)

fault_whole : (p : Pos) (w : What) → fault p w ≡ whole → Prim.⊥
fault_whole p w e = cc

pub apart : (b : List ℕ) (i : ℕ) (ts : List Tok) (e : Ending) → e ≡ whole → Lexes (byte b) (length b) i ts e → Apart b i ts
apart b i ts e q (finish z) = subst (Between b i) z nothing
apart b i ts e q (blank l k r) = apart_from b i (i + 1) ts (λ m h. blank_then k h) (apart b (i + 1) ts e q r)
apart b i ts e q (comment {k = k} h m r) = apart_from b i k ts (λ n g. comment_then h m g) (apart b k ts e q r)
apart b i ts e q (token {j = j} {ts = us} h m r) = (nothing, apart b j us e q r)
apart b i ts e q (bad l d u) = Prim.absurd (fault_whole _ _ q)
apart b i ts e q (open_end h m) = Prim.absurd (fault_whole _ _ q)
apart b i ts e q (wide h w) = Prim.absurd (fault_whole _ _ q)
