-- Clocks in a circle among names without an equation.
use Rattle.std.specs.Prelude.{◌≡◌, ◌↔◌, Bool, not, List, [], ◌∷◌, ◌++◌, map, filter, Contains}
use Rattle.lus_tree.specs.Tree.{Name, Variable, Component}
use Rattle.lus_tree.specs.Reason.{Refused, cycle}
use Rattle.lus_meaning.specs.Depends.{named_in}
use Rattle.lus_meaning.specs.Faults.{fault, if_so}
use Rattle.lus_meaning.specs.Run.{equations}
use Rattle.lus_meaning.specs.Scene.{variables}
use Rattle.lus_meaning.specs.WellMade.{AreDistinct}
use Rattle.way_laws.specs.Circles.{free_clock}
use Rattle.way_laws.specs.OwnGraph.{LeadsTo}
use Rattle.lus_order.specs.declared.setting.Clocks.{Clocks}
use Rattle.number_graphs.specs.Graphs.{Rows, AreOnCircles}
use Rattle.lus_order.specs.OwnRows.{numbers_of}
use Rattle.lus_order.specs.Reads.{clock_seen}
use Rattle.lus_order.specs.Streams.{AreTabled, with_sides}

-- those names that are not on the left
abbrev pub free_of : List Name → List Name → List Name
free_of lefts xs = filter (λ y. not (named_in y lefts)) xs

-- each stream leads to that of its clock, where no equation defines this
abbrev pub free_rows : Clocks → List Name → Rows
free_rows s lefts = map (λ xs. numbers_of s.names (free_of lefts xs)) (map clock_seen s.clocks.items)

-- the faults of the streams that are marked, each at its name
abbrev pub marked_faults : List Variable → List Bool → List Refused
marked_faults (v ∷ vs) (b ∷ bs) = if_so b cycle v.name.at ++ marked_faults vs bs
marked_faults _ _ = []

-- the fault of a stream whose clocks go in a circle
pub record IsClockCircle (n : Component) (r : Refused) : Type 0 where
  pub stream : Variable
  pub declared : Contains (variables n) stream
  pub circle : LeadsTo (free_clock n) (stream.name.text ∷ []) (stream.name.text ∷ [])
  pub is : r ≡ fault cycle stream.name.at

-- the faults that are marked are those
abbrev pub MarkedAreCircles : Type 0
MarkedAreCircles =
    (n : Component) (s : Clocks) (marks : List Bool) → AreTabled (variables n) s → AreDistinct s.names
    → AreOnCircles (free_rows s (with_sides [] (equations n))) marks
    → (r : Refused) → Contains (marked_faults (variables n) marks) r ↔ IsClockCircle n r
