-- The place that printed text has for a variable of a system.
use Rattle.std.specs.Prelude.{ℕ, List, [], ◌∷◌, ◌++◌, Option, Some, None, slice_get}
use Rattle.std.specs.Option.{option_map_or}
use Rattle.lus_meaning.specs.Scene.{Instance}
use Rattle.lus_meaning.specs.Slots.{Cell, beat_cell, name_cell, memory_cell, start_cell, sofar_cell, held_cell, Slot, slots}
use Rattle.lus_meaning.specs.Trace.{Subject, of_name, of_first}
use Rattle.lus_meaning.specs.TraceView.{spot_view}
use Rattle.path_traces.specs.declared.places.Place.{Place}

-- the calls on the way to a frame, and a name or a first value in it
abbrev pub PrintedPlace : Type 0
PrintedPlace = List ℕ × Subject

-- a name has its own, the memory of a `pre` that of its first value, and a held value that of its output; the other
-- variables have none
abbrev pub printed : List ℕ → Cell → Option PrintedPlace
printed path beat_cell = None
printed path (name_cell v) = Some (path, of_name v.name.text)
printed path (memory_cell m) = Some (path, of_first m.number)
printed path (start_cell a) = None
printed path sofar_cell = None
printed path (held_cell c v d) = Some (path ++ c.number ∷ [], of_name v.name.text)

abbrev pub printed_slot : Slot → Option PrintedPlace
printed_slot q = printed q.path q.cell

-- that of the variable with this number
abbrev pub printed_place : Instance → ℕ → Option PrintedPlace
printed_place i k = option_map_or printed_slot (slice_get (slots i) k) None

-- ---- as clauses see it

abbrev pub place_view : Place → PrintedPlace
place_view p = (p.path.items, spot_view p.what)
