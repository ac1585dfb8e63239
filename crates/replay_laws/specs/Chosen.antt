-- When choices are those of lines of a trace.
use Rattle.std.specs.Prelude.{◌≡◌, ℕ, List, Option, Some, None, map, option_map, slice_get, pos, false}
use Rattle.std.specs.Option.{option_map_or}
use Rattle.kind_num.specs.declared.Shape.{Shape}
use Rattle.kind_num.specs.declared.Shape.TheVariants.{Flag, Number}
use Rattle.lus_meaning.specs.Scene.{Instance}
use Rattle.lus_meaning.specs.Slots.{Cell, beat_cell, name_cell, memory_cell, start_cell, sofar_cell, held_cell, Slot, slots}
use Rattle.lus_meaning.specs.Trace.{Subject, of_name, of_first, BareLine, listed_at}
use Rattle.lus_meaning.specs.Value.{Value, absent, flag, whole}
use Rattle.sys_meaning.specs.System.{shape_of}
use Rattle.slot_values.specs.Resolution.{Resolution}
use Rattle.slot_sources.specs.declared.source.Switch.{Switch}
use Rattle.slot_sources.specs.Source.{listed, remembered}
use Rattle.slot_sources.specs.Rows.{Choices}
use Rattle.slot_sources.specs.Sources.{sources_of}
use Rattle.row_laws.specs.Choices.{choices_of}

-- The first values of memories, and what is listed of names that nothing gives, are what the lines choose; of other slots anything may be chosen.
pub record Chooses (ls : List BareLine) (i : Instance) (c : Choices) : Type 0 where
  pub first : (k : ℕ) (w : Switch) (e : Resolution) → slice_get (sources_of i) k ≡ Some (remembered w e) → c.first k ≡ (choices_of ls i).first k
  pub at : (k : ℕ) (w : Switch) → slice_get (sources_of i) k ≡ Some (listed w) → (t : ℕ) → c.at k t ≡ (choices_of ls i).at k t

-- ---- by what is listed of slots, and their shapes

-- what lines list of a cell: a name, or the first value of a memory
abbrev pub subject_in : Cell → Option Subject
subject_in beat_cell = None
subject_in (name_cell v) = Some (of_name v.name.text)
subject_in (memory_cell m) = Some (of_first m.number)
subject_in (start_cell a) = None
subject_in sofar_cell = None
subject_in (held_cell c v d) = None

abbrev pub place_in : Slot → Option (List ℕ × Subject)
place_in q = option_map (λ x. (q.path, x)) (subject_in q.cell)

abbrev pub listed_there : List BareLine → Option (List ℕ × Subject) → ℕ → Value
listed_there ls None t = absent
listed_there ls (Some q) t = listed_at ls q.0 q.1 t

-- what the lines list of the slot of that number at an instant; of the slot of a memory its first value at 0
abbrev pub listed_of : Instance → List BareLine → ℕ → ℕ → Value
listed_of i ls k t = listed_there ls (option_map_or place_in (slice_get (slots i) k) None) t

-- what is not listed is 0 or false
abbrev pub shape_default : Shape → Value → Value
shape_default Flag absent = flag false
shape_default Number absent = whole (pos 0)
shape_default s v = v

-- and nothing of what is no slot
abbrev pub listed_by : Option Shape → Value → Value
listed_by None v = absent
listed_by (Some s) v = shape_default s v

abbrev pub choices_by : List Shape → (ℕ → ℕ → Value) → Choices
choices_by ss told = record { first = λ k. listed_by (slice_get ss k) (told k 0); at = λ k t. listed_by (slice_get ss k) (told k t) }

abbrev pub slot_shapes : Instance → List Shape
slot_shapes i = map (λ q. shape_of q.sort) (slots i)

-- What is listed of each slot, else 0 or false by its shape, is what the lines choose.
abbrev pub ShapesChoose : Type 0
ShapesChoose =
    (i : Instance) (ls : List BareLine) (told : ℕ → ℕ → Value) → ((k t : ℕ) → told k t ≡ listed_of i ls k t) →
    Chooses ls i (choices_by (slot_shapes i) told)
