-- The tokens of a source as the grammar sees them: an endless stream, with nothing behind the last token.
use Rattle.std.specs.Prelude.{ℕ, ◌-◌, List, Option, Some, None, map, get_or, take, drop, length, [], ◌<◌, ◌≡◌}
use Rattle.lus_tree.specs.declared.place.Pos.{Pos}
use Rattle.lus_tree.specs.Tree.{Name}
use Rattle.lus_lexer.specs.declared.token.Class.{Class}
use Rattle.lus_lexer.specs.declared.token.Token.{Token}
use Rattle.lus_lexer.specs.Tokens.{byte, place}

-- what stands at a place of the stream: a token's class, its place in the source and its bytes; behind the last token no class, and the end of the source
pub record Mark : Type 0 where
  pub class : Option Class
  pub at : Pos
  pub text : Name

abbrev pub Stream : Type 0
Stream = ℕ → Mark

abbrev pub mark_of : List ℕ → Token → Mark
mark_of bytes t = record { class = Some t.class; at = t.at; text = take (t.to - t.from) (drop t.from bytes) }

abbrev pub end_mark : List ℕ → Mark
end_mark bytes = record { class = None; at = place (byte bytes) (length bytes); text = [] }

unfoldable pub stream : List ℕ → List Token → Stream
stream bytes tokens k = get_or (map (mark_of bytes) tokens) k (end_mark bytes)

-- the marks before n are the same
abbrev pub Agree : Stream → Stream → ℕ → Type 0
Agree s t n = (k : ℕ) → k < n → t k ≡ s k
