-- A text is cut into lines of words. A word and the end of a line have places.
use Rattle.std.specs.Prelude.{ℕ, ◌+◌, ◌==◌, ◌||◌, ◌&&◌, Bool, false, List, [], ◌∷◌, if◌then◌else◌}
use Rattle.lus_tree.specs.declared.place.Pos.{Pos}

-- a word and the place of its first byte
pub record TraceWord : Type 0 where
  pub text : List ℕ
  pub at : Pos

-- the words of a line, and the place of its end
pub record TextLine : Type 0 where
  pub words : List TraceWord
  pub end : Pos

abbrev pub first_place : Pos
first_place = record { line = 1; column = 1 }

abbrev pub right : Pos → Pos
right p = record { line = p.line; column = p.column + 1 }

abbrev pub below : Pos → Pos
below p = record { line = p.line + 1; column = 1 }

-- a space or a tab
abbrev pub is_blank : ℕ → Bool
is_blank b = b == 32 || b == 9

abbrev pub begins_with_feed : List ℕ → Bool
begins_with_feed [] = false
begins_with_feed (b ∷ bs) = b == 10

-- a carriage return that stands directly before a line feed
abbrev pub is_return : ℕ → List ℕ → Bool
is_return b bs = b == 13 && begins_with_feed bs

-- a text from a place on: the bytes at its front that are of one word, the words after them in the line, the end of the line,
-- the lines below it, and the end of the text
pub record Cut : Type 0 where
  pub front : List ℕ
  pub words : List TraceWord
  pub end : Pos
  pub later : List TextLine
  pub last : Pos

-- the front is a word, if it isn't empty
abbrev pub with_front : List ℕ → Pos → List TraceWord → List TraceWord
with_front [] p ws = ws
with_front (b ∷ bs) p ws = record { text = b ∷ bs; at = p } ∷ ws

abbrev pub text_line : Pos → Cut → TextLine
text_line p c = record { words = with_front c.front p c.words; end = c.end }

abbrev pub at_end : Pos → Cut
at_end p = record { front = []; words = []; end = p; later = []; last = p }

-- before a line feed at p, where q is the place below it
abbrev pub before_feed : Pos → Pos → Cut → Cut
before_feed p q c = record { front = []; words = []; end = p; later = text_line q c ∷ c.later; last = c.last }

-- before a blank, where q is the place right of it
abbrev pub before_blank : Pos → Cut → Cut
before_blank q c = record { front = []; words = with_front c.front q c.words; end = c.end; later = c.later; last = c.last }

-- before a carriage return at p that a line feed follows
abbrev pub before_return : Pos → Cut → Cut
before_return p c = record { front = []; words = []; end = p; later = c.later; last = c.last }

-- before any other byte
abbrev pub before_byte : ℕ → Cut → Cut
before_byte b c = record { front = b ∷ c.front; words = c.words; end = c.end; later = c.later; last = c.last }

unfoldable pub cut : Pos → List ℕ → Cut
cut p [] = at_end p
cut p (b ∷ bs) =
    if b == 10 then before_feed p (below p) (cut (below p) bs) else
    if is_blank b then before_blank (right p) (cut (right p) bs) else
    if is_return b bs then before_return p (cut (right p) bs) else before_byte b (cut (right p) bs)

-- the lines of a text, and the place behind its last byte
abbrev pub text_lines : List ℕ → List TextLine
text_lines bytes = text_line first_place (cut first_place bytes) ∷ (cut first_place bytes).later

abbrev pub end_of : List ℕ → Pos
end_of bytes = (cut first_place bytes).last

abbrev pub keep : List TraceWord → TextLine → List TextLine → List TextLine
keep [] r rs = rs
keep (w ∷ ws) r rs = r ∷ rs

-- the lines that have words
abbrev pub filled : List TextLine → List TextLine
filled [] = []
filled (r ∷ rs) = keep r.words r (filled rs)
