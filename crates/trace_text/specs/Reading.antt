-- Reading from left to right, with the first misfit that is met.
use Rattle.std.specs.Prelude.{◌≡◌, ◌<◌, length, ℕ, suc, ◌+◌, ◌*◌, ◌-◌, ◌==◌, ◌&&◌, ◌||◌, Bool, true, false, not, nat_le, List, [], ◌∷◌, ◌++◌, codes, Option, Some, None, option_map, Result, Ok, Err, if◌then◌else◌, pos, neg_ℤ}
use Rattle.std.specs.Char.{is_ascii_digit}
use Rattle.std.specs.Str.{bytes_eq}
use Rattle.lus_tree.specs.declared.place.Pos.{Pos}
use Rattle.lus_meaning.specs.Value.{Value, absent, flag, whole}
use Rattle.lus_meaning.specs.Trace.{Subject, of_name, of_first}
use Rattle.lus_meaning.specs.TraceView.{PlacedValue, PlacedLine, Listing, line_view}
use Rattle.trace_text.specs.declared.fault.TraceFault.{TraceFault}
use Rattle.trace_text.specs.declared.fault.TraceFault.TheVariants.{Form, Memory}
use Rattle.trace_text.specs.declared.cursor.Cursor.{Cursor}
use Rattle.trace_text.specs.declared.cursor.TraceWord.{TraceWord as CodeWord}
use Rattle.trace_text.specs.declared.reading.Next.{Next as CodeNext}
use Rattle.trace_text.specs.declared.reading.Next.TheVariants.{Line as NextLine, End as NextEnd}
use Rattle.trace_text.specs.Cutting.{TraceWord, TextLine, Cut, with_front, cut, filled, keep, first_place, is_blank, is_return}
use Rattle.lus_lexer.specs.Names.{is_name}

infixl 10 ◌>>=◌
abbrev pub ◌>>=◌ : {A B : Type 0} → Result A Pos → (A → Result B Pos) → Result B Pos
(Ok x) >>= f = f x
(Err p) >>= f = Err p

-- What a function returned, seen by view, is what reading gives, unless memory ran out.
abbrev pub Fails : {Y : Type 0} → TraceFault → Result Y Pos → Type 0
Fails Memory read = Unit {0}
Fails (Form p) read = read ≡ Err p

abbrev pub Gives : {X Y : Type 0} → (X → Y) → Result X TraceFault → Result Y Pos → Type 0
Gives view (Ok x) read = read ≡ Ok (view x)
Gives view (Err e) read = Fails e read

-- the same where memory plays no part
abbrev pub seen : {X Y : Type 0} → (X → Y) → Result X Pos → Result Y Pos
seen view (Ok x) = Ok (view x)
seen view (Err p) = Err p

-- ---- words

-- the number that goes on with these digits; up to 2^63 - 1 none is lost
abbrev pub number_from : ℕ → List ℕ → Option ℕ
number_from n [] = Some n
number_from n (b ∷ bs) = if is_ascii_digit b && nat_le n 922337203685477580 then number_from (n * 10 + (b - 48)) bs else None

abbrev pub up_to : ℕ → Option ℕ → Option ℕ
up_to most None = None
up_to most (Some n) = if nat_le n most then Some n else None

abbrev pub is_empty : {A : Type 0} → List A → Bool
is_empty [] = true
is_empty (x ∷ xs) = false

unfoldable pub number_of : List ℕ → Option ℕ
number_of [] = None
number_of (b ∷ bs) = if b == 48 && not (is_empty bs) then None else up_to 9223372036854775807 (number_from 0 (b ∷ bs))

unfoldable pub small_of : List ℕ → Option ℕ
small_of w = up_to 4294967295 (number_of w)

unfoldable pub value_of : List ℕ → Option Value
value_of [] = None
value_of (b ∷ bs) =
    if is_ascii_digit b then option_map (λ n. whole (pos n)) (number_of (b ∷ bs)) else
    if b == 45 then option_map (λ n. whole (neg_ℤ (pos n))) (number_of bs) else
    if bytes_eq (b ∷ bs) (codes "true") then Some (flag true) else
    if bytes_eq (b ∷ bs) (codes "false") then Some (flag false) else
    if bytes_eq (b ∷ bs) (codes "_") then Some absent else None

unfoldable pub name_of : List ℕ → Option (List ℕ)
name_of w = if is_name w then Some w else None

unfoldable pub subject_of : List ℕ → Option Subject
subject_of [] = None
subject_of (b ∷ bs) = if b == 35 then option_map of_first (small_of bs) else option_map of_name (name_of (b ∷ bs))

abbrev pub joined : List ℕ → Option Subject → Option (List ℕ × Subject)
joined path s = option_map (λ x. (path, x)) s

abbrev pub longer : {A : Type 0} → List A → Option A → Option (List A)
longer xs None = None
longer xs (Some x) = Some (xs ++ x ∷ [])

-- a word goes on after a path and a piece
unfoldable pub address_from : Option (List ℕ) → List ℕ → List ℕ → Option (List ℕ × Subject)
address_from None piece bs = None
address_from (Some path) piece [] = joined path (subject_of piece)
address_from (Some path) piece (b ∷ bs) = if b == 46 then address_from (longer path (small_of piece)) [] bs else address_from (Some path) (piece ++ b ∷ []) bs

abbrev pub address_of : List ℕ → Option (List ℕ × Subject)
address_of w = address_from (Some []) [] w

-- ---- lines

-- the bytes of the word at the front
abbrev pub ends_word : ℕ → List ℕ → Bool
ends_word b bs = b == 10 || (is_blank b || is_return b bs)

unfoldable pub word_length : List ℕ → ℕ
word_length [] = 0
word_length (b ∷ bs) = if ends_word b bs then 0 else suc (word_length bs)

unfoldable pub blank_length : List ℕ → ℕ
blank_length [] = 0
blank_length (b ∷ bs) = if is_blank b then suc (blank_length bs) else 0

-- a line feed, or a carriage return before one
unfoldable pub end_length : List ℕ → ℕ
end_length [] = 0
end_length (b ∷ bs) = if b == 10 then 1 else if is_return b bs then 2 else 0

abbrev pub shift : ℕ → Pos → Pos
shift n p = record { line = p.line; column = p.column + n }

-- what is left of a line, and the lines below it that have words
pub record Left : Type 0 where
  pub words : List TraceWord
  pub end : Pos
  pub later : List TextLine
  pub last : Pos

abbrev pub left : Pos → Cut → Left
left p c = record { words = with_front c.front p c.words; end = c.end; later = filled c.later; last = c.last }

abbrev pub left_of : Cursor → Left
left_of c = left c.at (cut c.at c.rest.now)

-- lines and columns stay below 2^32
pub record IsWithin (c : Cursor) : Type 0 where
  pub line : c.at.line + length c.rest.now < 4294967296
  pub column : c.at.column + length c.rest.now < 4294967296

abbrev pub begins_with_blank : List ℕ → Bool
begins_with_blank [] = false
begins_with_blank (b ∷ bs) = is_blank b

abbrev pub word_view : CodeWord → TraceWord
word_view w = record { text = w.text.now; at = w.at }

-- the next word of the line
abbrev pub word_in : Left → List TraceWord → Option (TraceWord × Left)
word_in l [] = None
word_in l (w ∷ ws) = Some (w, record { words = ws; end = l.end; later = l.later; last = l.last })

abbrev pub word_of : Left → Option (TraceWord × Left)
word_of l = word_in l l.words

abbrev pub or_misfit : {A : Type 0} → Pos → Option A → Result A Pos
or_misfit p None = Err p
or_misfit p (Some x) = Ok x

abbrev pub check : Bool → Pos → Result (Unit {0}) Pos
check true p = Ok tt
check false p = Err p

-- which has to be there
abbrev pub next_of : Left → Result (TraceWord × Left) Pos
next_of l = or_misfit l.end (word_of l)

abbrev pub none_in : List TraceWord → Result (Unit {0}) Pos
none_in [] = Ok tt
none_in (w ∷ ws) = Err w.at

-- no word is left in the line
abbrev pub none_of : Left → Result (Unit {0}) Pos
none_of l = none_in l.words

abbrev pub without_words : Left → Left
without_words l = record { words = []; end = l.end; later = l.later; last = l.last }

-- the lines that are left and have words
abbrev pub lines_ahead : Left → List TextLine
lines_ahead l = keep l.words (record { words = l.words; end = l.end }) l.later

abbrev pub first_in : Pos → List TextLine → Option (TraceWord × Left)
first_in e [] = None
first_in e (r ∷ rs) = word_in (record { words = r.words; end = r.end; later = rs; last = e }) r.words

-- the first word of the next of them
abbrev pub first_of : Left → Result (TraceWord × Left) Pos
first_of l = or_misfit l.last (first_in l.last (lines_ahead l))

-- on to the line below, or the end of the text
abbrev pub Goes : Result Cursor Pos → Left → Type 0
Goes (Ok c) l = first_of l ≡ first_of (left_of c)
Goes (Err p) l = first_of l ≡ Err p

-- trace NODE N, from its first word on
unfoldable pub opening_of : TraceWord → Left → Result ((List ℕ × Pos) × (ℕ × Pos) × Left) Pos
opening_of w l = do
  checked ← check (bytes_eq w.text (codes "trace")) w.at
  name ← next_of l
  named ← or_misfit name.0.at (name_of name.0.text)
  count ← next_of name.1
  n ← or_misfit count.0.at (small_of count.0.text)
  done ← none_of count.1
  Ok ((named, name.0.at), (n, count.0.at), count.1)

abbrev pub values_in : List TraceWord → Result (List PlacedValue) Pos
values_in [] = Ok []
values_in (w ∷ ws) = do
  v ← or_misfit w.at (value_of w.text)
  vs ← values_in ws
  Ok (record { value = v; at = w.at } ∷ vs)

-- the values that are left in a line
abbrev pub values_left : Left → Result (List PlacedValue × Left) Pos
values_left l = values_in l.words >>= λ vs. Ok (vs, without_words l)

-- at least one
unfoldable pub values_of : Left → Result (List PlacedValue × Left) Pos
values_of l = do
  first ← next_of l
  values_left l

-- a line from its first word on
unfoldable pub line_read : TraceWord → Left → Result (PlacedLine × Left) Pos
line_read w l = do
  place ← or_misfit w.at (address_of w.text)
  vs ← values_of l
  Ok (record { at = w.at; path = place.0; subject = place.1; values = vs.0 }, vs.1)

abbrev pub nothing_in : Option (TraceWord × Left) → Result (Unit {0}) Pos
nothing_in None = Ok tt
nothing_in (Some x) = Err x.0.at

-- behind the end line no word is left
abbrev pub nothing_of : Left → Result (Unit {0}) Pos
nothing_of l = nothing_in (first_in l.last (lines_ahead l))

abbrev pub is_closing : TraceWord → Left → Bool
is_closing w l = bytes_eq w.text (codes "end") && is_empty l.words

-- what comes next: a line, or the end line at this place
pub data Next : Type 0 where
  a_line : PlacedLine → Left → Next
  an_end : Pos → Next

abbrev pub next_view : CodeNext → Next
next_view (NextLine l c) = a_line (line_view l) (left_of c)
next_view (NextEnd p) = an_end p

-- where the code goes on
abbrev pub GoesOnWithin : CodeNext → Type 0
GoesOnWithin (NextLine l c) = IsWithin c
GoesOnWithin (NextEnd p) = Unit {0}

unfoldable pub line_from : Pos → List TextLine → Result Next Pos
line_from e rows = do
  first ← or_misfit e (first_in e rows)
  if is_closing first.0 first.1 then (nothing_of first.1 >>= (λ done. Ok (an_end first.0.at))) else (line_read first.0 first.1 >>= (λ x. Ok (a_line x.0 x.1)))

abbrev pub line_of : Left → Result Next Pos
line_of l = line_from l.last (lines_ahead l)

-- the lines, and the place of the end line
abbrev pub onto : Next → Result (List PlacedLine × Pos) Pos → Result (List PlacedLine × Pos) Pos
onto (an_end p) ls = Ok ([], p)
onto (a_line x l) ls = ls >>= λ others. Ok (x ∷ others.0, others.1)

unfoldable pub lines_in : Pos → List TextLine → Result (List PlacedLine × Pos) Pos
lines_in e [] = Err e
lines_in e (r ∷ rs) = line_from e (r ∷ rs) >>= λ x. onto x (lines_in e rs)

abbrev pub lines_left : Left → Result (List PlacedLine × Pos) Pos
lines_left l = lines_in l.last (lines_ahead l)

unfoldable pub trace_of : Left → Result Listing Pos
trace_of l = do
  first ← first_of l
  opening ← opening_of first.0 first.1
  lines ← lines_left opening.2
  Ok (record { node = opening.0.0; node_at = opening.0.1; length = opening.1.0; length_at = opening.1.1; lines = lines.0; end_at = lines.1 })

abbrev pub reading : List ℕ → Result Listing Pos
reading bytes = trace_of (left first_place (cut first_place bytes))
