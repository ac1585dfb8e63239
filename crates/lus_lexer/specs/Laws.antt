-- Laws of the definition, for every text.
use Rattle.std.specs.Prelude.{◌≡◌, ℕ, zero, suc, ◌+◌, ◌-◌, ◌<◌, ◌≤◌, ◌⊎◌, ◌==◌, not, true, List, [], ◌∷◌, ◌++◌, length, take, drop, get_or, if◌then◌else◌}
use Rattle.std.specs.List.{list_all}
use Rattle.std.specs.Char.{is_ascii_digit}
use Rattle.lus_tree.specs.declared.place.Pos.{Pos}
use Rattle.lus_lexer.specs.declared.token.Token.{Token as Tok}
use Rattle.lus_lexer.specs.declared.token.Class.{Class}
use Rattle.lus_lexer.specs.declared.token.Class.TheVariants.{Ident, Number, Text}
use Rattle.lus_lexer.specs.declared.spelling.Comment.{Comment}
use Rattle.lus_lexer.specs.declared.spelling.Lexeme.TheVariants.{Token, Opens}
use Rattle.lus_lexer.specs.Table.{Row, table}
use Rattle.lus_lexer.specs.Tokens.{byte, In, Each, is_letter, is_word, is_plain, is_blank, value, Longest, Closes, Lexes, Ending, whole}

-- ts and e are a reading of the text
abbrev pub Reads : List ℕ → List Tok → Ending → Type 0
Reads bytes ts e = Lexes (byte bytes) (length bytes) 0 ts e

pub record Same (ts ts' : List Tok) (e e' : Ending) : Type 0 where
  pub tokens : ts ≡ ts'
  pub ending : e ≡ e'

-- No text has two readings.
abbrev pub OneReading : Type 0
OneReading = (bytes : List ℕ) (ts ts' : List Tok) (e e' : Ending) → Reads bytes ts e → Reads bytes ts' e' → Same ts ts' e e'

-- The spans lie from i on, one behind the other, inside the bytes. None is empty.
abbrev pub Lie : List ℕ → ℕ → List Tok → Type 0
Lie bytes i [] = i ≤ length bytes
Lie bytes i (t ∷ ts) = (i ≤ t.from) × (t.from < t.to) × (t.to ≤ length bytes) × Lie bytes t.to ts

abbrev pub InOrder : Type 0
InOrder = (bytes : List ℕ) (ts : List Tok) (e : Ending) → Reads bytes ts e → Lie bytes 0 ts

-- the line feeds before i
abbrev pub feeds : (ℕ → ℕ) → ℕ → ℕ
feeds s zero = 0
feeds s (suc i) = if s i == 10 then feeds s i + 1 else feeds s i

-- The place of the byte at i: its line is the first if no line feed stands before it, and its
-- column is 1 at the first byte of that line.
pub record IsPlace (s : ℕ → ℕ) (i : ℕ) (p : Pos) : Type 0 where
  pub start : ℕ
  pub since : start ≤ i
  pub begins : (start ≡ 0) ⊎ ((0 < start) × (s (start - 1) ≡ 10))
  pub no_feed : Each s (λ b. not (b == 10)) start i
  pub line : p.line ≡ feeds s i + 1
  pub column : p.column ≡ i - start + 1

abbrev pub Placed : Type 0
Placed = (bytes : List ℕ) (ts : List Tok) (e : Ending) → Reads bytes ts e → (t : Tok) → In t ts → IsPlace (byte bytes) t.from t.at

-- the text of a class
pub data HasText (c : Class) (w : List ℕ) : Type 0 where
  fixed : (r : Row) → In r table → w ≡ r.text → r.is ≡ Token c → HasText c w
  name : is_letter (get_or w 0 0) ≡ true → list_all is_word w ≡ true → ((r : Row) → In r table → w ≡ r.text → Prim.⊥) → c ≡ Ident → HasText c w
  number : 0 < length w → list_all is_ascii_digit w ≡ true → c ≡ Number → HasText c w
  text : (v : List ℕ) → w ≡ 34 ∷ (v ++ 34 ∷ []) → list_all is_plain v ≡ true → c ≡ Text → HasText c w

abbrev pub slice : List ℕ → Tok → List ℕ
slice bytes t = take (t.to - t.from) (drop t.from bytes)

abbrev pub Spelled : Type 0
Spelled = (bytes : List ℕ) (ts : List Tok) (e : Ending) → Reads bytes ts e → (t : Tok) → In t ts → HasText t.class (slice bytes t)

-- nothing but blanks and comments from i up to j
pub data Between (bytes : List ℕ) : ℕ → ℕ → Type 0 where
  nothing : {i : ℕ} → Between bytes i i
  blank_then : {i j : ℕ} → is_blank (byte bytes i) ≡ true → Between bytes (i + 1) j → Between bytes i j
  comment_then : {i j k m : ℕ} {c : Comment} → Longest (byte bytes) i j (Opens c) → Closes (byte bytes) (length bytes) c j k
      → Between bytes k m → Between bytes i m

-- such gaps before each token, and behind the last one
abbrev pub Apart : List ℕ → ℕ → List Tok → Type 0
Apart bytes i [] = Between bytes i (length bytes)
Apart bytes i (t ∷ ts) = Between bytes i t.from × Apart bytes t.to ts

abbrev pub OnlyBlanks : Type 0
OnlyBlanks = (bytes : List ℕ) (ts : List Tok) → Reads bytes ts whole → Apart bytes 0 ts

abbrev pub Fits : Type 0
Fits = (bytes : List ℕ) (ts : List Tok) (e : Ending) → Reads bytes ts e → (t : Tok) → In t ts → t.class ≡ Number → value (byte bytes) t.from
    (t.to - t.from) ≤ 9223372036854775807
