-- What the lines of a trace choose for the slots of a declaration.
use Rattle.std.specs.Prelude.{ℕ, List, map, slice_get, unwrap_or}
use Rattle.lus_tree.specs.declared.place.Sort.{Sort}
use Rattle.lus_meaning.specs.Value.{Value, absent}
use Rattle.lus_meaning.specs.Scene.{Instance}
use Rattle.lus_meaning.specs.Slots.{Cell, name_cell, memory_cell, Slot, slots}
use Rattle.lus_meaning.specs.Trace.{BareLine, of_name, of_first, listed_at, or_default}
use Rattle.slot_sources.specs.Rows.{Choices}

-- the first value of a memory, of that type; what is not listed is 0 or false
abbrev pub first_in : List BareLine → List ℕ → Sort → Cell → Value
first_in ls path z (memory_cell m) = or_default z (listed_at ls path (of_first m.number) 0)
first_in ls path z _ = absent

-- what is listed of a name at an instant
abbrev pub listed_in : List BareLine → List ℕ → Cell → ℕ → Value
listed_in ls path (name_cell v) t = or_default v.sort (listed_at ls path (of_name v.name.text) t)
listed_in ls path _ t = absent

-- by the number of a slot
abbrev pub of_slot : (Slot → Value) → Instance → ℕ → Value
of_slot w i k = unwrap_or (slice_get (map w (slots i)) k) absent

abbrev pub choices_of : List BareLine → Instance → Choices
choices_of ls i = record {
  first = of_slot (λ q. first_in ls q.path q.sort q.cell) i;
  at = λ k t. of_slot (λ q. listed_in ls q.path q.cell t) i k;
}
