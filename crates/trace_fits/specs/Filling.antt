-- The values of lines by slots, and the first word that doesn't fit by these.
use Rattle.std.specs.Prelude.{ℕ, ◌+◌, ◌-◌, max, replicate, ◌==◌, Bool, false, cond, ◌&&◌, ◌||◌, nat_le, nat_lt, is_some, List, [], ◌∷◌, length, Option, Some, None, Result, Ok, Err, slice_index_or, slice_set, unwrap_or}
use Rattle.std.specs.List.{list_all}
use Rattle.std.specs.Option.{option_map_or}
use Rattle.lus_tree.specs.declared.place.Pos.{Pos}
use Rattle.lus_tree.specs.Tree.{Variable}
use Rattle.lus_meaning.specs.Value.{Value, absent}
use Rattle.lus_meaning.specs.Trace.{of_name}
use Rattle.lus_meaning.specs.TraceView.{PlacedValue, PlacedLine, Listing, bare_values}
use Rattle.lus_meaning.specs.Fits.{Listable, takes_value}
use Rattle.trace_fits.specs.Slotted.{Slotted, slotted_at}

-- the place of a refusal
abbrev pub misfit_of : Result (Unit {0}) Pos → Option Pos
misfit_of (Ok x) = None
misfit_of (Err p) = Some p

-- the first of two misfits
abbrev pub or_else : Option Pos → Option Pos → Option Pos
or_else (Some p) o = Some p
or_else None o = o

-- by slot, the values of the line that lists it
abbrev pub Seats : Type 0
Seats = List (Option (List Value))

abbrev pub seat_at : Seats → ℕ → Option (List Value)
seat_at vs k = slice_index_or vs k None

abbrev pub is_seated : Seats → ℕ → Bool
is_seated vs k = is_some (seat_at vs k)

abbrev pub value_in : List Value → ℕ → Value
value_in ws t = slice_index_or ws t absent

abbrev pub seated_value : Seats → ℕ → ℕ → Value
seated_value vs k t = value_in (unwrap_or (seat_at vs k) []) t

-- as many slots as these need, and at least so many
abbrev pub seats_needed : ℕ → List Slotted → ℕ
seats_needed n [] = n
seats_needed n (s ∷ ss) = seats_needed (max n (s.slot + 1)) ss

abbrev pub no_seats : ℕ → Seats
no_seats n = replicate n None

-- ---- lines

abbrev pub seated : Option Slotted → Seats → List Value → Seats
seated None vs ws = vs
seated (Some s) vs ws = slice_set vs s.slot (Some ws)

-- with the values of a line at its slot
abbrev pub with_line : List Slotted → Seats → PlacedLine → Seats
with_line ss vs l = seated (slotted_at ss l.path l.subject) vs (bare_values l.values)

abbrev pub filled : List Slotted → Seats → List PlacedLine → Seats
filled ss vs [] = vs
filled ss vs (l ∷ ls) = filled ss (with_line ss vs l) ls

-- the first value that isn't taken, or the first that is too many
unfoldable pub values_misfit : Listable → ℕ → List PlacedValue → Option Pos
values_misfit s left [] = None
values_misfit s left (v ∷ vs) =
    cond (left == 0) (Some v.at) (cond (takes_value s v.value) (values_misfit s (left - 1) vs) (Some v.at))

-- a slot has no other line, and the line has enough values, each of which is taken
abbrev pub seat_misfit : Option Slotted → Seats → PlacedLine → Option Pos
seat_misfit None vs l = Some l.at
seat_misfit (Some s) vs l =
    cond (is_seated vs s.slot || nat_lt (length l.values) s.listable.count) (Some l.at)
    (values_misfit s.listable s.listable.count l.values)

abbrev pub line_misfit : List Slotted → Seats → PlacedLine → Option Pos
line_misfit ss vs l = seat_misfit (slotted_at ss l.path l.subject) vs l

abbrev pub lines_misfit : List Slotted → Seats → List PlacedLine → Option Pos
lines_misfit ss vs [] = None
lines_misfit ss vs (l ∷ ls) = or_else (line_misfit ss vs l) (lines_misfit ss (with_line ss vs l) ls)

-- ---- inputs

abbrev pub is_given : List Slotted → Seats → Variable → Bool
is_given ss vs v = option_map_or (λ s. is_seated vs s.slot) (slotted_at ss [] (of_name v.name.text)) false

abbrev pub are_given : List Slotted → Seats → List Variable → Bool
are_given ss vs xs = list_all (is_given ss vs) xs

-- ---- a trace, behind the name of its node

abbrev pub trace_misfit : List Slotted → List Variable → Seats → Listing → Option Pos
trace_misfit ss inputs vs t =
    cond (nat_le 1 t.length && nat_le t.length 1001)
    (or_else (lines_misfit ss vs t.lines) (cond (are_given ss (filled ss vs t.lines) inputs) None (Some t.end_at)))
    (Some t.length_at)
