-- What contracts see of places, of what may be listed, and of what is.
use Rattle.std.specs.Prelude.{ℕ, List, map, Option, option_map}
use Rattle.std.specs.Borrow.{Bor}
use Rattle.indexmap.specs.IndexMap.{IndexMap, get_by}
use Rattle.lus_tree.specs.declared.declaration.Node.{Node}
use Rattle.lus_tree.specs.Tree.{Component}
use Rattle.lus_tree.specs.View.{node_view}
use Rattle.lus_meaning.specs.declared.trace.PlacedValue.{PlacedValue as CodePlacedValue}
use Rattle.lus_meaning.specs.Value.{Value}
use Rattle.lus_meaning.specs.Trace.{Subject, of_name, of_first}
use Rattle.lus_meaning.specs.TraceView.{values_view}
use Rattle.lus_meaning.specs.Fits.{Listable, same_place}
use Rattle.trace_fits.specs.declared.fitted.Fitted.{Fitted}
use Rattle.trace_fits.specs.declared.permitted.Listable.{Listable as CodeListable}
use Rattle.trace_fits.specs.declared.place.Subject.{Subject as CodeSubject}
use Rattle.trace_fits.specs.declared.place.Subject.TheVariants.{Name, First}
use Rattle.trace_fits.specs.declared.place.Place.{Place}
use Rattle.trace_fits.specs.Filling.{Seats, seated_value}
use Rattle.trace_fits.specs.Slotted.{Slotted}

abbrev pub subject_view : CodeSubject → Subject
subject_view (Name x) = of_name x.now
subject_view (First k) = of_first k

-- ---- what may be listed

abbrev pub listable_view : CodeListable → Listable
listable_view s = record {
  path = s.path.items;
  subject = subject_view s.what;
  sort = s.sort;
  count = s.count;
  needed = s.needed;
}

abbrev pub slotted_view : CodeListable → Slotted
slotted_view s = record { listable = listable_view s; slot = s.slot }

abbrev pub slotted_seen : Option (Bor CodeListable) → Option Slotted
slotted_seen o = option_map (λ s. slotted_view s.now) o

-- what a table has for a place
abbrev pub found_at : {S : Type 0} → IndexMap Place (Bor CodeListable) S → List ℕ → Subject → Option Slotted
found_at m path x = slotted_seen (get_by (λ k. same_place k.way.now (subject_view k.what) path x) m)

-- ---- nodes

abbrev pub node_seen : Option (Bor Node) → Option Component
node_seen o = option_map (λ n. node_view n.now) o

-- ---- what is listed

abbrev pub seat_view : Option (Bor (List CodePlacedValue)) → Option (List Value)
seat_view o = option_map (λ v. values_view v.now) o

abbrev pub seats_view : List (Option (Bor (List CodePlacedValue))) → Seats
seats_view vs = map seat_view vs

-- what is listed of a slot at an instant
abbrev pub fitted_at : Fitted → ℕ → ℕ → Value
fitted_at f k t = seated_value (seats_view f.seats.items) k t
