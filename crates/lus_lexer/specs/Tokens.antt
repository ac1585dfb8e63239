-- The tokens of a source, by places. s k is its byte at k, and 0 past its end n.
use Rattle.std.specs.Prelude.{◌≡◌, ℕ, zero, suc, ◌+◌, ◌-◌, ◌*◌, ◌<◌, ◌≤◌, ◌⊎◌, Bool, true, false, not, ◌&&◌, ◌||◌, ◌==◌, nat_le, List, [], ◌∷◌, get_or, if◌then◌else◌}
use Rattle.std.specs.Char.{is_ascii_digit, is_ascii_alphabetic}
use Rattle.lus_tree.specs.declared.place.Pos.{Pos}
use Rattle.lus_lexer.specs.declared.token.Token.{Token as Tok}
use Rattle.lus_tree.specs.declared.refusal.What.{What}
use Rattle.lus_tree.specs.declared.refusal.What.TheVariants.{BadByte, UnclosedComment, WideLiteral}
use Rattle.lus_lexer.specs.declared.token.Class.{Class}
use Rattle.lus_lexer.specs.declared.token.Class.TheVariants.{Ident, Number, Text}
use Rattle.lus_lexer.specs.declared.spelling.Comment.{Comment}
use Rattle.lus_lexer.specs.declared.spelling.Comment.TheVariants.{Line, Round, Slash}
use Rattle.lus_lexer.specs.declared.spelling.Lexeme.{Lexeme}
use Rattle.lus_lexer.specs.declared.spelling.Lexeme.TheVariants.{Token, Opens}
use Rattle.lus_lexer.specs.Table.{Row, table}

abbrev pub byte : List ℕ → ℕ → ℕ
byte bytes k = get_or bytes k 0

abbrev pub is_letter : ℕ → Bool
is_letter b = is_ascii_alphabetic b || b == 95

abbrev pub is_word : ℕ → Bool
is_word b = is_letter b || is_ascii_digit b

abbrev pub is_blank : ℕ → Bool
is_blank b = b == 32 || b == 9 || b == 13 || b == 10

-- printable, without " and \
abbrev pub is_plain : ℕ → Bool
is_plain b = nat_le 32 b && nat_le b 126 && not (b == 34) && not (b == 92)

-- each byte from i up to j passes
abbrev pub Each : (ℕ → ℕ) → (ℕ → Bool) → ℕ → ℕ → Type 0
Each s f i j = (k : ℕ) → i ≤ k → k < j → f (s k) ≡ true

-- the text stands at i
abbrev pub Stands : (ℕ → ℕ) → ℕ → List ℕ → ℕ → Type 0
Stands s i [] j = j ≡ i
Stands s i (c ∷ w) j = (s i ≡ c) × Stands s (i + 1) w j

-- x is one element of the list
abbrev pub In : {A : Type 0} → A → List A → Type 0
In x [] = Prim.⊥
In x (y ∷ ys) = (x ≡ y) ⊎ In x ys

-- a row of the table, from i up to j
pub record IsRow (s : ℕ → ℕ) (i j : ℕ) (r : Row) : Type 0 where
  pub listed : In r table
  pub stands : Stands s i r.text j
  pub alone : r.alone ≡ true → is_word (s j) ≡ false

pub record IsName (s : ℕ → ℕ) (i j : ℕ) : Type 0 where
  pub some : i < j
  pub letter : is_letter (s i) ≡ true
  pub word : Each s is_word i j
  pub no_row : (r : Row) → IsRow s i j r → Prim.⊥

pub record IsNumber (s : ℕ → ℕ) (i j : ℕ) : Type 0 where
  pub some : i < j
  pub digits : Each s is_ascii_digit i j

pub record IsText (s : ℕ → ℕ) (i j : ℕ) : Type 0 where
  pub last : ℕ
  pub past : j ≡ last + 1
  pub some : i < last
  pub quote : s i ≡ 34
  pub plain : Each s is_plain (i + 1) last
  pub quote_again : s last ≡ 34

-- the bytes from i up to j spell x
pub data Spells (s : ℕ → ℕ) (i j : ℕ) (x : Lexeme) : Type 0 where
  row : (r : Row) → IsRow s i j r → x ≡ r.is → Spells s i j x
  name : IsName s i j → x ≡ Token Ident → Spells s i j x
  number : IsNumber s i j → x ≡ Token Number → Spells s i j x
  text : IsText s i j → x ≡ Token Text → Spells s i j x

abbrev pub NoneAt : (ℕ → ℕ) → ℕ → Type 0
NoneAt s i = (j : ℕ) (x : Lexeme) → Spells s i j x → Prim.⊥

-- the longest match
pub record Longest (s : ℕ → ℕ) (i j : ℕ) (x : Lexeme) : Type 0 where
  pub spells : Spells s i j x
  pub longest : (j' : ℕ) (x' : Lexeme) → Spells s i j' x' → j' ≤ j

-- a and then b, for the first time from j on, end at k
pub record EndsWith (s : ℕ → ℕ) (a b j k : ℕ) : Type 0 where
  pub last : ℕ
  pub past : k ≡ last + 1 + 1
  pub since : j ≤ last
  pub one : s last ≡ a
  pub other : s (last + 1) ≡ b
  pub first : (m : ℕ) → j ≤ m → m < last → s m ≡ a → s (m + 1) ≡ b → Prim.⊥

pub record EndsLine (s : ℕ → ℕ) (n j k : ℕ) : Type 0 where
  pub since : j ≤ k
  pub within : k ≤ n
  pub inside : Each s (λ b. not (b == 10)) j k
  pub last : k < n → s k ≡ 10

-- a comment whose opening ends at j ends at k
abbrev pub Closes : (ℕ → ℕ) → ℕ → Comment → ℕ → ℕ → Type 0
Closes s n Line j k = EndsLine s n j k
Closes s n Round j k = EndsWith s 42 41 j k
Closes s n Slash j k = EndsWith s 42 47 j k

-- the value of so many digits from i on
abbrev pub value : (ℕ → ℕ) → ℕ → ℕ → ℕ
value s i zero = 0
value s i (suc k) = 10 * value s i k + (s (i + k) - 48)

unfoldable pub IsWide : (ℕ → ℕ) → ℕ → ℕ → Type 0
IsWide s i j = 9223372036854775808 ≤ value s i (j - i)

-- line and column of the byte at i
abbrev pub place : (ℕ → ℕ) → ℕ → Pos
place s zero = record { line = 1; column = 1 }
place s (suc i) = if s i == 10 then record { line = (place s i).line + 1; column = 1 } else record { line = (place s i).line; column = (place s i).column + 1 }

abbrev pub IsCursor : (ℕ → ℕ) → ℕ → Pos → Type 0
IsCursor s i p = p ≡ place s i

pub data Ending : Type 0 where
  whole : Ending
  fault : Pos → What → Ending

-- from i on stand these tokens, and then the end or the first fault
pub data Lexes (s : ℕ → ℕ) (n : ℕ) : ℕ → List Tok → Ending → Type 0 where
  finish : {i : ℕ} → i ≡ n → Lexes s n i [] whole
  blank : {i : ℕ} {ts : List Tok} {e : Ending} → i < n → is_blank (s i) ≡ true → Lexes s n (i + 1) ts e → Lexes s n i ts e
  comment : {i j k : ℕ} {c : Comment} {ts : List Tok} {e : Ending} → Longest s i j (Opens c) → Closes s n c j k → Lexes s n k ts e → Lexes s n i ts e
  token : {i j : ℕ} {c : Class} {ts : List Tok} {e : Ending} → Longest s i j (Token c) → (c ≡ Number → IsWide s i j → Prim.⊥)
      → Lexes s n j ts e → Lexes s n i (record { from = i; to = j; at = place s i; class = c } ∷ ts) e
  -- BadByte: nothing is spelled here
  bad : {i : ℕ} → i < n → is_blank (s i) ≡ false → NoneAt s i → Lexes s n i [] (fault (place s i) BadByte)
  -- UnclosedComment
  open_end : {i j : ℕ} {c : Comment} → Longest s i j (Opens c) → ((k : ℕ) → Closes s n c j k → Prim.⊥) → Lexes s n i [] (fault (place s i) UnclosedComment)
  -- WideLiteral
  wide : {i j : ℕ} → Longest s i j (Token Number) → IsWide s i j → Lexes s n i [] (fault (place s i) WideLiteral)
