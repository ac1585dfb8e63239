-- What is longest at a place.
use Rattle.std.proofs.Common.{◌≡◌, ℕ, ◌<◌, ◌≤◌, ◌⊎◌, inl, inr, Bool, true, false, ◌==◌, ◌||◌, refl, sym, ◌∙◌, subst, arith}
use Rattle.std.specs.Char.{is_ascii_digit}
use Rattle.std.proofs.lemmas.Grind.{common_steps}
use Rattle.lus_lexer.specs.declared.token.Class.TheVariants as C
use Rattle.lus_lexer.specs.declared.spelling.Lexeme.{Lexeme}
use Rattle.lus_lexer.specs.declared.spelling.Lexeme.TheVariants.{Token}
use Rattle.lus_lexer.specs.Tokens.{Each, IsNumber, IsText, Spells, row, name, number, text, is_word, is_letter, is_plain, Longest}
use Rattle.lus_lexer.proofs.Tables.{head}

pub letter_digit : (b : ℕ) → is_letter b ≡ true → is_ascii_digit b ≡ true → Prim.⊥
letter_digit b h k = grind (arith, common_steps)

pub letter_quote : (b : ℕ) → b ≡ 34 → is_letter b ≡ true → Prim.⊥
letter_quote b e h = let k : is_letter 34 ≡ true = subst (λ (x : ℕ). is_letter x ≡ true) e h in cc

pub digit_quote : (b : ℕ) → b ≡ 34 → is_ascii_digit b ≡ true → Prim.⊥
digit_quote b e h = let k : is_ascii_digit 34 ≡ true = subst (λ (x : ℕ). is_ascii_digit x ≡ true) e h in cc

pub letter_word : (b : ℕ) → is_letter b ≡ true → is_word b ≡ true
letter_word b h = rw h refl

or_true : (a b : Bool) → b ≡ true → (a || b) ≡ true
or_true true b h = refl
or_true false b h = h

pub digit_word : (b : ℕ) → is_ascii_digit b ≡ true → is_word b ≡ true
digit_word b h = or_true (is_letter b) (is_ascii_digit b) h

pub both_ways : (b : Bool) → b ≡ true → b ≡ false → Prim.⊥
both_ways b h k = let e : true ≡ false = sym h ∙ k in cc

pub quote_is : (b : ℕ) → b ≡ 34 → (b == 34) ≡ false → Prim.⊥
quote_is b e h = let k : (34 == 34) ≡ false = subst (λ (x : ℕ). (x == 34) ≡ false) e h in cc

pub split_at : (a b : ℕ) → (a ≤ b) ⊎ (b < a)
split_at a b = grind arith

-- where a class of bytes ends, a run of it ends
run_end : (s : ℕ → ℕ) (f : ℕ → Bool) (i j j' : ℕ) → i ≤ j → f (s j) ≡ false → Each s f i j' → j' ≤ j
run_end s f i j j' h e k = elim (split_at j' j) [ inl l ↦ l | inr g ↦ Prim.absurd (both_ways (f (s j)) (k j h g) e) ]

pub first_of : (s : ℕ → ℕ) (f : ℕ → Bool) (i j : ℕ) → i < j → Each s f i j → f (s i) ≡ true
first_of s f i j h e = e i (omega arith) h

number_over : (s : ℕ → ℕ) (i j j' : ℕ) (x : Lexeme) → IsNumber s i j → is_ascii_digit (s j) ≡ false → Spells s i j' x → j' ≤ j
number_over s i j j' x h e (row r k _) = elim (head s i j' r k) [
  | inl w ↦ Prim.absurd (letter_digit (s i) w.letter (first_of s is_ascii_digit i j h.some h.digits))
  | inr w ↦ Prim.absurd (both_ways (is_word (s i)) (digit_word (s i) (first_of s is_ascii_digit i j h.some h.digits)) w.other)
]
number_over s i j j' x h e (name k _) = Prim.absurd (letter_digit (s i) k.letter (first_of s is_ascii_digit i j h.some h.digits))
number_over s i j j' x h e (number k _) = run_end s is_ascii_digit i j j' (omega (arith, h.some)) e k.digits
number_over s i j j' x h e (text k _) = Prim.absurd (digit_quote (s i) k.quote (first_of s is_ascii_digit i j h.some h.digits))

pub longest_number : (s : ℕ → ℕ) (i j : ℕ) → IsNumber s i j → is_ascii_digit (s j) ≡ false → Longest s i j (Token C.Number)
longest_number s i j h e = record { spells = number h refl; longest = λ j' x k. number_over s i j j' x h e k }

-- at a quote nothing but a text stands
pub only_text : (s : ℕ → ℕ) (i j : ℕ) (x : Lexeme) → s i ≡ 34 → Spells s i j x → IsText s i j
only_text s i j x q (row r k _) = elim (head s i j r k) [
  | inl w ↦ Prim.absurd (letter_quote (s i) q w.letter)
  | inr w ↦ Prim.absurd (quote_is (s i) q w.no_quote)
]
only_text s i j x q (name k _) = Prim.absurd (letter_quote (s i) q k.letter)
only_text s i j x q (number k _) = Prim.absurd (digit_quote (s i) q (first_of s is_ascii_digit i j k.some k.digits))
only_text s i j x q (text k _) = k

plain_quote : (b : ℕ) → b ≡ 34 → is_plain b ≡ true → Prim.⊥
plain_quote b e h = let k : is_plain 34 ≡ true = subst (λ (x : ℕ). is_plain x ≡ true) e h in cc

text_over : (s : ℕ → ℕ) (i j j' : ℕ) → IsText s i j → IsText s i j' → j' ≤ j
text_over s i j j' h k = elim (split_at k.last h.last) [
  | inl l ↦ omega (arith, l, h.past, k.past)
  | inr g ↦ Prim.absurd (plain_quote (s h.last) h.quote_again (k.plain h.last (omega (arith, h.some)) g))
]

pub longest_text : (s : ℕ → ℕ) (i j : ℕ) → IsText s i j → Longest s i j (Token C.Text)
longest_text s i j h = record { spells = text h refl; longest = λ j' x k. text_over s i j j' h (only_text s i j' x h.quote k) }

-- at a letter a word stands
word_over : (s : ℕ → ℕ) (i j j' : ℕ) (x : Lexeme) → i ≤ j → is_letter (s i) ≡ true → is_word (s j) ≡ false → Spells s i j' x → j' ≤ j
word_over s i j j' x o l e (row r k _) = elim (head s i j' r k) [
  | inl w ↦ run_end s is_word i j j' o e w.word
  | inr w ↦ Prim.absurd (both_ways (is_word (s i)) (letter_word (s i) l) w.other)
]
word_over s i j j' x o l e (name k _) = run_end s is_word i j j' o e k.word
word_over s i j j' x o l e (number k _) = Prim.absurd (letter_digit (s i) l (first_of s is_ascii_digit i j' k.some k.digits))
word_over s i j j' x o l e (text k _) = Prim.absurd (letter_quote (s i) k.quote l)

pub longest_word : (s : ℕ → ℕ) (i j : ℕ) (x : Lexeme) → i ≤ j → is_letter (s i) ≡ true → is_word (s j) ≡ false → Spells s i j x → Longest s i j x
longest_word s i j x o l e h = record { spells = h; longest = λ j' x' k. word_over s i j j' x' o l e k }

pub some_word : (s : ℕ → ℕ) (i j : ℕ) → i ≤ j → is_letter (s i) ≡ true → is_word (s j) ≡ false → i < j
some_word s i j o l e = elim (split_at j i) [
  | inl g ↦ (let d : j ≡ i = omega arith in let k : is_word (s i) ≡ false = subst
      (λ (x : ℕ). is_word (s x) ≡ false) d e in Prim.absurd (both_ways (is_word (s i)) (letter_word (s i) l) k))
  | inr g ↦ g
]

pub some_digit : (s : ℕ → ℕ) (i j : ℕ) → i ≤ j → is_ascii_digit (s i) ≡ true → is_ascii_digit (s j) ≡ false → i < j
some_digit s i j o l e = elim (split_at j i) [
  | inl g ↦ (let d : j ≡ i = omega arith in let k : is_ascii_digit (s i) ≡ false = subst
      (λ (x : ℕ). is_ascii_digit (s x) ≡ false) d e in Prim.absurd (both_ways (is_ascii_digit (s i)) l k))
  | inr g ↦ g
]
