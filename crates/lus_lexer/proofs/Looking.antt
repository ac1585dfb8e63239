-- What looking through a table says.
use Rattle.std.proofs.Common.{◌≡◌, ℕ, zero, suc, ◌+◌, ◌-◌, ◌<◌, ◌≤◌, ◌⊎◌, inl, inr, Bool, true, false, not, nat_le, ◌==◌, ◌&&◌, ◌||◌, List, [], ◌∷◌, length, take, drop, refl, sym, ap, ◌∙◌, subst, arith, cond, MatchOption, Option, Some, None, drop-cons}
use Rattle.std.specs.List.{list_all, starts_with}
use Rattle.std.specs.Char.{is_ascii_digit}
use Rattle.std.specs.Str.{bytes_eq}
use Rattle.std.proofs.lemmas.Slice.Eq.{bytes_eq-Decides}
use Rattle.std.proofs.lemmas.Grind.{common_steps}
use lib.Dec.{eqb}
use Rattle.lus_lexer.specs.declared.token.Class.TheVariants as C
use Rattle.lus_lexer.specs.declared.token.Class.{Class}
use Rattle.lus_lexer.specs.declared.spelling.Lexeme.{Lexeme}
use Rattle.lus_lexer.specs.declared.spelling.Lexeme.TheVariants.{Token}
use Rattle.lus_lexer.specs.Table.{Row, table}
use Rattle.lus_lexer.specs.Search.{sign_in, word_in, looked_up, sign_groups, word_groups}
use Rattle.lus_lexer.specs.Tokens.{byte, Each, Stands, In, IsRow, Spells, row, name, number, text, is_word, is_letter, Longest, NoneAt}
use Rattle.lus_lexer.proofs.Spans.{and_left, and_right, in_all, stands_length, span_within}
use Rattle.lus_lexer.proofs.Tables.{head, word_row, rows, signs_at, words_at, word_listed, sign_listed, both}
use Rattle.lus_lexer.proofs.Longest.{both_ways, letter_word, first_of}

pub slice_stands : (bytes : List ℕ) (i d j : ℕ) → j ≡ i + d → j ≤ length bytes → Stands (byte bytes) i (take d (drop i bytes)) j
slice_stands bytes i zero j e h = omega (arith, e)
slice_stands bytes i (suc d) j e h =
    let l : i < length bytes = omega (arith, e, h) in
    let p : i + 1 ≡ suc i = omega arith in
    let r : Stands (byte bytes) (i + 1) (take d (drop (i + 1) bytes)) j = slice_stands bytes (i + 1) d j (omega (arith, e)) h in
    let r' : Stands (byte bytes) (i + 1) (take d (drop (suc i) bytes)) j = subst (λ (x : ℕ). Stands (byte bytes) (i + 1) (take d (drop x bytes)) j) p r in
    rw (drop-cons bytes i 0 l) (refl, r')

cons_cong : (a b : ℕ) (v w : List ℕ) → a ≡ b → v ≡ w → (a ∷ v) ≡ (b ∷ w)
cons_cong a b v w e f = cc

stands_slice : (bytes : List ℕ) (i j : ℕ) (w : List ℕ) → j ≤ length bytes → Stands (byte bytes) i w j → w ≡ take (length w) (drop i bytes)
stands_slice bytes i j [] h k = refl
stands_slice bytes i j (c ∷ w) h k =
    let n = stands_length (byte bytes) (i + 1) w j k.1 in
    let l : i < length bytes = omega (arith, n, h) in
    let p : i + 1 ≡ suc i = omega arith in
    let r : w ≡ take (length w) (drop (i + 1) bytes) = stands_slice bytes (i + 1) j w h k.1 in
    let r' : w ≡ take (length w) (drop (suc i) bytes) = subst (λ (x : ℕ). w ≡ take (length w) (drop x bytes)) p r in
    rw (drop-cons bytes i 0 l) (cons_cong c (byte bytes i) w _ (sym k.0) r')

pub same_slice : (bytes : List ℕ) (i j : ℕ) (w : List ℕ) → j ≤ length bytes → Stands (byte bytes) i w j → w ≡ take (j - i) (drop i bytes)
same_slice bytes i j w n h =
    let a = stands_slice bytes i j w n h in
    let b = stands_length (byte bytes) i w j h in
    let e : length w ≡ j - i = omega (arith, b) in
    subst (λ (x : ℕ). w ≡ take x (drop i bytes)) e a

-- ---- words

abbrev pub WordSays : List (List ℕ × Class) → List ℕ → Class → Type 0
WordSays ws w c = In (record { text = w; is = Token c; alone = false }) (rows ws) ⊎ ((c ≡ C.Ident) × ((r : Row) → In r (rows ws) → r.text ≡ w → Prim.⊥))

word_step : (t w : List ℕ) (k c : Class) (ws : List (List ℕ × Class)) (b : Bool) → (b ≡ true → t ≡ w) → (t ≡ w → b ≡ true) → WordSays ws w c
    → WordSays ((t, k) ∷ ws) w (cond b k c)
word_step t w k c ws true f g h = let e : w ≡ t = sym (f refl) in inl (inl (ap (λ (z : List ℕ). word_row (z, k)) e))
word_step t w k c ws false f g (inl i) = inl (inr i)
word_step t w k c ws false f g (inr n) = inr (
  n.0,
  λ r i e. elim i
      [ inl q ↦ both_ways false (g (sym (ap (λ (z : Row). z.text) q) ∙ e)) refl | inr o ↦ n.1 r o e ],
)

pub word_says : (ws : List (List ℕ × Class)) (w : List ℕ) → WordSays ws w (word_in ws w)
word_says [] w = inr (refl, λ r i e. i)
word_says (t ∷ ws) w = word_step t.0 w t.1 (word_in ws w) ws (bytes_eq t.0 w) (bytes_eq-Decides t.0 w).0 (bytes_eq-Decides t.0 w).1 (word_says ws w)

pub word_spells : (bytes : List ℕ) (i j : ℕ) (c : Class) → i < j → j ≤ length bytes → is_letter (byte bytes i) ≡ true → Each (byte bytes) is_word i j
    → In (record { text = take (j - i) (drop i bytes); is = Token c; alone = false }) (words_at (byte bytes i)) ⊎
    ((c ≡ C.Ident) × ((r : Row) → In r (words_at (byte bytes i)) → r.text ≡ take (j - i) (drop i bytes) → Prim.⊥))
    → Spells (byte bytes) i j (Token c)
word_spells bytes i j c o n l e (inl k) = row _ (record {
  listed = word_listed (byte bytes i) _ k;
  stands = slice_stands bytes i (j - i) j
      (omega arith) n;
  alone = λ q. cc;
}) refl
word_spells bytes i j c o n l e (inr k) = name (record {
  some = o;
  letter = l;
  word = e;
  no_row = λ r h. elim (head (byte bytes) i j r h) [
    | inl w ↦ k.1 r w.listed (same_slice bytes i j r.text n h.stands)
    | inr w ↦ both_ways (is_word (byte bytes i)) (letter_word (byte bytes i) l) w.other
  ];
}) (ap Token k.0)

-- ---- signs

take_within : (n m k : ℕ) (xs : List ℕ) → k ≤ m → length xs ≡ m → n ≡ length (take n (drop k xs)) → k + n ≤ m
take_within n m k xs a b e = grind (arith, common_steps)

starts_to : (bytes : List ℕ) (i : ℕ) (w : List ℕ) → i ≤ length bytes → starts_with eqb (drop i bytes) w ≡ true → Stands (byte bytes) i w (i + length w)
starts_to bytes i w o h =
    let e : w ≡ take (length w) (drop i bytes) = (bytes_eq-Decides w (take (length w) (drop i bytes))).0 h in
    let l : i + length w ≤ length bytes = take_within (length w) (length bytes) i bytes o refl (ap length e) in
    let k = slice_stands bytes i (length w) (i + length w) refl l in
    subst (λ (x : List ℕ). Stands (byte bytes) i x (i + length w)) (sym e) k

to_starts : (bytes : List ℕ) (i j : ℕ) (w : List ℕ) → j ≤ length bytes → Stands (byte bytes) i w j → starts_with eqb (drop i bytes) w ≡ true
to_starts bytes i j w n h = (bytes_eq-Decides w (take (length w) (drop i bytes))).1 (stands_slice bytes i j w n h)

alone_to : (a w : Bool) → (not a || not w) ≡ true → a ≡ true → w ≡ false
alone_to true true h k = cc
alone_to true false h k = refl
alone_to false w h k = cc

alone_from : (a w : Bool) → (a ≡ true → w ≡ false) → (not a || not w) ≡ true
alone_from true w h = rw (h refl) refl
alone_from false w h = refl

pub record SignFound (bytes : List ℕ) (at : ℕ) (rs : List Row) (x : Lexeme × ℕ) : Type 0 where
  pub r : Row
  pub stands : IsRow (byte bytes) at x.1 r
  pub is : x.0 ≡ r.is
  pub longest : (q : Row) (j : ℕ) → In q rs → IsRow (byte bytes) at j q → j ≤ x.1

abbrev pub SignSays : List ℕ → ℕ → List Row → Option (Lexeme × ℕ) → Type 0
SignSays bytes at rs None = (q : Row) (j : ℕ) → In q rs → IsRow (byte bytes) at j q → Prim.⊥
SignSays bytes at rs (Some x) = SignFound bytes at rs x

row_length : (s : ℕ → ℕ) (i j : ℕ) (q r : Row) → length q.text ≤ length r.text → IsRow s i j q → j ≤ i + length r.text
row_length s i j q r l h = let n = stands_length s i q.text j h.stands in omega (arith, n, l)

sign_step : (bytes : List ℕ) (at : ℕ) (r : Row) (rs : List Row) (b : Bool) (o : Option (Lexeme × ℕ))
    → (b ≡ true → IsRow (byte bytes) at (at + length r.text) r) → ((j : ℕ) → IsRow (byte bytes) at j r → b ≡ true)
    → ((q : Row) → In q rs → length q.text ≤ length r.text) → SignSays bytes at rs o
    → SignSays bytes at (r ∷ rs) (cond b (Some (r.is, at + length r.text)) o)
sign_step bytes at r rs true o f g d h = record {
  r = r;
  stands = f refl;
  is = refl;
  longest = λ q j i k. elim i [ inl e ↦ row_length (byte bytes) at j q r (rw e (omega arith)) k | inr l ↦ row_length (byte bytes) at j q r (d q l) k ];
}
sign_step bytes at r rs false None f g d h = λ q j i k. elim i [
  | inl e ↦ both_ways false
      (g j (subst (λ (z : Row). IsRow (byte bytes) at j z) e k)) refl
  | inr l ↦ h q j l k
]
sign_step bytes at r rs false (Some x) f g d h = record {
  r = h.r;
  stands = h.stands;
  is = h.is;
  longest = λ q j i k. elim i [
    | inl e ↦ Prim.absurd (both_ways false (g j (subst (λ (z : Row). IsRow (byte bytes) at j z) e k)) refl)
    | inr l ↦ h.longest q j l k
  ];
}

abbrev descending : List Row → Bool
descending [] = true
descending (r ∷ rs) = list_all (λ q. nat_le (length q.text) (length r.text)) rs && descending rs

le_of : (a b : ℕ) → nat_le a b ≡ true → a ≤ b
le_of a b h = grind arith

test_to : (bytes : List ℕ) (at : ℕ) (r : Row) → at ≤ length bytes → In r table →
    (starts_with eqb (drop at bytes) r.text && (not r.alone || not (is_word (byte bytes (at + length r.text))))) ≡ true → IsRow
    (byte bytes) at (at + length r.text) r
test_to bytes at r o l h = record {
  listed = l;
  stands = starts_to bytes at r.text o (and_left (starts_with eqb (drop at bytes) r.text) _ h);
  alone = alone_to r.alone (is_word (byte bytes (at + length r.text))) (and_right (starts_with eqb (drop at bytes) r.text) _ h);
}

to_test : (bytes : List ℕ) (at : ℕ) (r : Row) (j : ℕ) → IsRow (byte bytes) at j r →
    (starts_with eqb (drop at bytes) r.text && (not r.alone || not (is_word (byte bytes (at + length r.text))))) ≡ true
to_test bytes at r j h =
    let n = span_within bytes at j r.is (row r h refl) in
    let e : j ≡ at + length r.text = stands_length (byte bytes) at r.text j h.stands in
    let a : r.alone ≡ true → is_word (byte bytes (at + length r.text)) ≡ false = subst (λ (x : ℕ). r.alone ≡ true → is_word (byte bytes x) ≡ false) e h.alone in
    both _ _ (to_starts bytes at j r.text n h.stands) (alone_from r.alone _ a)

pub sign_says : (bytes : List ℕ) (at : ℕ) (rs : List Row) → at ≤ length bytes → ((q : Row) → In q rs → In q table) → descending rs ≡ true
    → SignSays bytes at rs (sign_in rs bytes at)
sign_says bytes at [] o t d = λ q j i k. i
sign_says bytes at (r ∷ rs) o t d = sign_step bytes at r rs _ (sign_in rs bytes at)
    (λ h. test_to bytes at r o (t r (inl refl)) h)
    (λ j h. to_test bytes at r j h)
    (λ q i. le_of _ _ (in_all (λ q. nat_le (length q.text) (length r.text)) q rs (and_left (list_all (λ q. nat_le (length q.text) (length r.text)) rs) _ d) i))
    (sign_says bytes at rs o (λ q i. t q (inr i)) (and_right (list_all (λ q. nat_le (length q.text) (length r.text)) rs) _ d))

cond_descends : (b : Bool) (xs ys : List Row) → descending xs ≡ true → descending ys ≡ true → descending (cond b xs ys) ≡ true
cond_descends true xs ys h k = h
cond_descends false xs ys h k = k

looked_descends : (b : ℕ) (gs : List (ℕ × List Row)) → list_all (λ g. descending g.1) gs ≡ true → descending (looked_up b gs) ≡ true
looked_descends b [] h = refl
looked_descends b (g ∷ gs) h = cond_descends (b == g.0) g.1 (looked_up b gs) (and_left (descending g.1) _ h)
    (looked_descends b gs (and_right (descending g.1) _ h))

groups_descend : list_all (λ g. descending g.1) sign_groups ≡ true
groups_descend = refl

sign_over : (bytes : List ℕ) (at : ℕ) (x : Lexeme) (j : ℕ) → is_letter (byte bytes at) ≡ false → is_ascii_digit (byte bytes at) ≡ false →
    (byte bytes at ≡ 34 → Prim.⊥)
    → Spells (byte bytes) at j x → (r : Row) × In r (signs_at (byte bytes at)) × IsRow (byte bytes) at j r
sign_over bytes at x j l d u (row r h _) = elim (head (byte bytes) at j r h) [
  | inl w ↦ Prim.absurd (both_ways (is_letter (byte bytes at)) w.letter l)
  | inr w ↦ (r, w.listed, h)
]
sign_over bytes at x j l d u (name h _) = Prim.absurd (both_ways (is_letter (byte bytes at)) h.letter l)
sign_over bytes at x j l d u (number h _) = Prim.absurd (both_ways (is_ascii_digit (byte bytes at))
    (first_of (byte bytes) is_ascii_digit at j h.some h.digits) d)
sign_over bytes at x j l d u (text h _) = Prim.absurd (u h.quote)

sign_ends : (bytes : List ℕ) (at : ℕ) (o : Option (Lexeme × ℕ)) → is_letter (byte bytes at) ≡ false → is_ascii_digit (byte bytes at) ≡ false
    → (byte bytes at ≡ 34 → Prim.⊥)
    → SignSays bytes at (signs_at (byte bytes at)) o → MatchOption o (NoneAt (byte bytes) at) (λ x. Longest (byte bytes) at x.1 x.0)
sign_ends bytes at None l d u h = λ j x k. let w = sign_over bytes at x j l d u k in h w.0 j w.1 w.2
sign_ends bytes at (Some y) l d u h = record {
  spells = row h.r h.stands h.is;
  longest = λ j x k. let w = sign_over bytes at x j l d u k
      in h.longest w.0 j w.1 w.2;
}

pub sign_longest : (bytes : List ℕ) (at : ℕ) → at ≤ length bytes → is_letter (byte bytes at) ≡ false → is_ascii_digit
    (byte bytes at) ≡ false → (byte bytes at ≡ 34 → Prim.⊥)
    → MatchOption (sign_in (signs_at (byte bytes at)) bytes at) (NoneAt (byte bytes) at) (λ x. Longest (byte bytes) at x.1 x.0)
sign_longest bytes at o l d u = sign_ends bytes at (sign_in (signs_at (byte bytes at)) bytes at) l d u
    (sign_says bytes at (signs_at (byte bytes at)) o (λ q i. sign_listed (byte bytes at) q i) (looked_descends (byte bytes at) sign_groups groups_descend))

pub word_found : (b : ℕ) (w : List ℕ) (c : Class) → c ≡ word_in (looked_up b word_groups) w → In
    (record { text = w; is = Token c; alone = false }) (words_at b) ⊎
    ((c ≡ C.Ident) × ((r : Row) → In r (words_at b) → r.text ≡ w → Prim.⊥))
word_found b w c e = subst (λ (x : Class). WordSays (looked_up b word_groups) w x) (sym e) (word_says (looked_up b word_groups) w)
