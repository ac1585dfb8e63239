-- Which bytes are a name.
use Rattle.std.specs.Prelude.{ℕ, Bool, not, ◌&&◌, List, ◌++◌, map}
use Rattle.std.specs.List.{list_all, list_any}
use Rattle.std.specs.Str.{bytes_eq}
use Rattle.lus_lexer.specs.Table.{keywords, left_out_words}
use Rattle.lus_lexer.specs.Tokens.{byte, is_letter, is_word}

-- what looks like a name and is none: the keywords, and the words that the language leaves out
abbrev pub reserved : List (List ℕ)
reserved = map (λ r. r.text) (keywords ++ left_out_words)

-- a letter or _, then letters, digits and _, and no reserved word
unfoldable pub is_name : List ℕ → Bool
is_name w = is_letter (byte w 0) && (list_all is_word w && not (list_any (bytes_eq w) reserved))
