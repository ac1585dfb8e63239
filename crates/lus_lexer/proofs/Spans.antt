-- What a spelling is made of.
use Rattle.std.proofs.Common.{◌≡◌, ℕ, ◌+◌, ◌-◌, ◌<◌, ◌≤◌, ◌⊎◌, inl, inr, Bool, true, false, not, nat_le, ◌==◌, ◌&&◌, List, [], ◌∷◌, length, refl, arith}
use Rattle.std.specs.List.{list_all}
use Rattle.std.specs.Char.{is_ascii_digit}
use Rattle.std.proofs.lemmas.Grind.{common_steps}
use Rattle.lus_lexer.specs.declared.spelling.Lexeme.{Lexeme}
use Rattle.lus_lexer.specs.Table.{Row, table}
use Rattle.lus_lexer.specs.Tokens.{byte, Each, Stands, In, IsRow, IsText, Spells, row, name, number, text, is_word, is_plain}

pub and_left : (a b : Bool) → (a && b) ≡ true → a ≡ true
and_left true b h = refl
and_left false b h = h

pub and_right : (a b : Bool) → (a && b) ≡ true → b ≡ true
and_right true b h = h
and_right false b h = cc

pub in_all : {A : Type 0} (f : A → Bool) (x : A) (xs : List A) → list_all f xs ≡ true → In x xs → f x ≡ true
in_all f x [] h i = Prim.absurd i
in_all f x (y ∷ ys) h (inl e) = rw e (and_left (f y) _ h)
in_all f x (y ∷ ys) h (inr i) = in_all f x ys (and_right (f y) _ h) i

split : (i k : ℕ) → i ≤ k → (k ≡ i) ⊎ (i + 1 ≤ k)
split i k h = grind arith

split_at : (a b : ℕ) → (a ≤ b) ⊎ (b < a)
split_at a b = grind arith

zero_printable : (b : ℕ) → b ≡ 0 → nat_le 32 b ≡ true → Prim.⊥
zero_printable b e h = grind arith

pub stands_length : (s : ℕ → ℕ) (i : ℕ) (w : List ℕ) (j : ℕ) → Stands s i w j → j ≡ i + length w
stands_length s i [] j h = omega (arith, h)
stands_length s i (c ∷ w) j h = let r = stands_length s (i + 1) w j h.1 in omega (arith, r)

stands_here : (s : ℕ → ℕ) (f : ℕ → Bool) (i c k : ℕ) → f c ≡ true → s i ≡ c → k ≡ i → f (s k) ≡ true
stands_here s f i c k a e d = rw (d, e) a

pub stands_each : (s : ℕ → ℕ) (f : ℕ → Bool) (i : ℕ) (w : List ℕ) (j : ℕ) → list_all f w ≡ true → Stands s i w j → Each s f i j
stands_each s f i [] j a h k p q = Prim.absurd (omega (arith, h))
stands_each s f i (c ∷ w) j a h k p q = elim (split i k p) [
  | inl e ↦ stands_here s f i c k (and_left (f c) _ a) h.0 e
  | inr l ↦ stands_each s f (i + 1) w j (and_right (f c) _ a) h.1 k l q
]

-- each text of the table is some printable bytes
pub printable_row : Row → Bool
printable_row r = nat_le 1 (length r.text) && list_all (nat_le 32) r.text

rows_printable : list_all printable_row table ≡ true
unfolding table printable_row
rows_printable = refl

pub word_printable : (b : ℕ) → is_word b ≡ true → nat_le 32 b ≡ true
word_printable b h = grind (arith, common_steps)

pub digit_printable : (b : ℕ) → is_ascii_digit b ≡ true → nat_le 32 b ≡ true
digit_printable b h = grind (arith, common_steps)

pub plain_printable : (b : ℕ) → is_plain b ≡ true → nat_le 32 b ≡ true
plain_printable b h = and_left (nat_le 32 b) _ (and_left (nat_le 32 b && nat_le b 126) _ (and_left (nat_le 32 b && nat_le b 126 && not (b == 34)) _ h))

pub record IsSpan (s : ℕ → ℕ) (i j : ℕ) : Type 0 where
  pub some : i < j
  pub printable : Each s (nat_le 32) i j

row_span : (s : ℕ → ℕ) (i j : ℕ) (r : Row) → IsRow s i j r → IsSpan s i j
unfolding printable_row
row_span s i j r h =
    let a : (nat_le 1 (length r.text) && list_all (nat_le 32) r.text) ≡ true = in_all printable_row r table rows_printable h.listed in
    let l = stands_length s i r.text j h.stands in
    let o : 1 ≤ length r.text = let x = and_left (nat_le 1 (length r.text)) _ a in grind arith in
    record {
      some = omega (arith, l, o);
      printable = stands_each s (nat_le 32) i r.text j (and_right (nat_le 1 (length r.text)) _ a) h.stands;
    }

text_span : (s : ℕ → ℕ) (i j : ℕ) → IsText s i j → IsSpan s i j
text_span s i j h = record {
  some = omega (arith, h.past, h.some);
  printable = λ k p q. elim (split i k p) [
    | inl e ↦ (rw (e, h.quote) refl)
    | inr l ↦ elim (split k h.last (omega (arith, h.past))) [
      | inl e ↦ (rw (← e, h.quote_again) refl)
      | inr m ↦ plain_printable (s k) (h.plain k l (omega arith))
    ]
  ];
}

pub span : (s : ℕ → ℕ) (i j : ℕ) (x : Lexeme) → Spells s i j x → IsSpan s i j
span s i j x (row r h e) = row_span s i j r h
span s i j x (name h e) = record { some = h.some; printable = λ k p q. word_printable (s k) (h.word k p q) }
span s i j x (number h e) = record { some = h.some; printable = λ k p q. digit_printable (s k) (h.digits k p q) }
span s i j x (text h e) = text_span s i j h

pub byte_past : (bytes : List ℕ) (k : ℕ) → length bytes ≤ k → byte bytes k ≡ 0
byte_past bytes k h = grind (arith, common_steps)

pub span_within : (bytes : List ℕ) (i j : ℕ) (x : Lexeme) → Spells (byte bytes) i j x → j ≤ length bytes
span_within bytes i j x h =
    let m = span (byte bytes) i j x h in
    elim (split_at j (length bytes)) [
      | inl l ↦ l
      | inr g ↦ (
          let z = byte_past bytes (j - 1) (omega arith) in
          let p = m.printable (j - 1) (omega (arith, m.some)) (omega (arith, m.some)) in
          Prim.absurd (zero_printable (byte bytes (j - 1)) z p))
    ]
