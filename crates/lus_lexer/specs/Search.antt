-- What looking through the tables gives.
use Rattle.std.specs.Prelude.{ℕ, ◌+◌, ◌==◌, Bool, not, ◌&&◌, ◌||◌, List, [], ◌∷◌, map, drop, length, Option, Some, None, if◌then◌else◌}
use Rattle.std.specs.Str.{bytes_eq}
use Rattle.std.specs.List.{starts_with}
use denote.Ref.{Bor}
use lib.Dec.{eqb}
use Rattle.lus_lexer.specs.declared.token.Class.{Class}
use Rattle.lus_lexer.specs.declared.token.Class.TheVariants.{Ident}
use Rattle.lus_lexer.specs.declared.spelling.Lexeme.{Lexeme}
use Rattle.lus_lexer.specs.declared.table.TheConstants.{ROUND, CLOSE, COMMA, SEMICOLON, COLON, EQUALS, LESS, MORE, PLUS, MINUS, STAR, SLASH, CARET, OPEN_BRACKET, CLOSE_BRACKET, OPEN_BRACE, CLOSE_BRACE, DOT, HASH, BAR, WORDS_A, WORDS_B, WORDS_C, WORDS_D, WORDS_E, WORDS_F, WORDS_G, WORDS_I, WORDS_L, WORDS_M, WORDS_N, WORDS_O, WORDS_P, WORDS_R, WORDS_S, WORDS_T, WORDS_U, WORDS_V, WORDS_W, WORDS_X}
use Rattle.lus_lexer.specs.Table.{Row}
use Rattle.lus_lexer.specs.Tokens.{byte, is_word}

abbrev pub row_of : Bor (List ℕ) × Lexeme × Bool → Row
row_of r = record { text = r.0.now; is = r.1; alone = r.2 }

abbrev pub word_of : Bor (List ℕ) × Class → List ℕ × Class
word_of w = (w.0.now, w.1)

-- the same of what stands in a constant
abbrev pub constant_row : (record { now : List ℕ }) × Lexeme × Bool → Row
constant_row r = record { text = r.0.now; is = r.1; alone = r.2 }

abbrev pub constant_word : (record { now : List ℕ }) × Class → List ℕ × Class
constant_word w = (w.0.now, w.1)

-- the list that goes with b
abbrev pub looked_up : {A : Type 0} → ℕ → List (ℕ × List A) → List A
looked_up b [] = []
looked_up b (g ∷ gs) = if b == g.0 then g.1 else looked_up b gs

-- the signs of the code, by their first bytes
abbrev pub sign_groups : List (ℕ × List Row)
sign_groups = (40, map constant_row ROUND) ∷ (41, map constant_row CLOSE) ∷ (44, map constant_row COMMA) ∷ (59, map constant_row SEMICOLON)
    ∷ (58, map constant_row COLON) ∷ (61, map constant_row EQUALS) ∷ (60, map constant_row LESS) ∷ (62, map constant_row MORE)
    ∷ (43, map constant_row PLUS) ∷ (45, map constant_row MINUS) ∷ (42, map constant_row STAR) ∷ (47, map constant_row SLASH)
    ∷ (94, map constant_row CARET) ∷ (91, map constant_row OPEN_BRACKET) ∷ (93, map constant_row CLOSE_BRACKET) ∷ (123, map constant_row OPEN_BRACE)
    ∷ (125, map constant_row CLOSE_BRACE) ∷ (46, map constant_row DOT) ∷ (35, map constant_row HASH) ∷ (124, map constant_row BAR) ∷ []

-- its words, by their first letters
abbrev pub word_groups : List (ℕ × List (List ℕ × Class))
word_groups = (97, map constant_word WORDS_A) ∷ (98, map constant_word WORDS_B) ∷ (99, map constant_word WORDS_C) ∷ (100, map constant_word WORDS_D)
    ∷ (101, map constant_word WORDS_E) ∷ (102, map constant_word WORDS_F) ∷ (103, map constant_word WORDS_G) ∷ (105, map constant_word WORDS_I)
    ∷ (108, map constant_word WORDS_L) ∷ (109, map constant_word WORDS_M) ∷ (110, map constant_word WORDS_N) ∷ (111, map constant_word WORDS_O)
    ∷ (112, map constant_word WORDS_P) ∷ (114, map constant_word WORDS_R) ∷ (115, map constant_word WORDS_S) ∷ (116, map constant_word WORDS_T)
    ∷ (117, map constant_word WORDS_U) ∷ (118, map constant_word WORDS_V) ∷ (119, map constant_word WORDS_W) ∷ (120, map constant_word WORDS_X) ∷ []

abbrev pub sign_in : List Row → List ℕ → ℕ → Option (Lexeme × ℕ)
sign_in [] bytes at = None
sign_in (r ∷ rs) bytes at = if starts_with eqb (drop at bytes) r.text &&
    (not r.alone || not (is_word (byte bytes (at + length r.text)))) then Some (r.is, at + length r.text) else sign_in rs bytes at

abbrev pub word_in : List (List ℕ × Class) → List ℕ → Class
word_in [] word = Ident
word_in (w ∷ ws) word = if bytes_eq w.0 word then w.1 else word_in ws word
