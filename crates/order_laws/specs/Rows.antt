-- Which operations are outside 128 bits in the row of a run, of a part at the end of a way of calls.
use Rattle.std.specs.Prelude.{ℕ, [], List}
use Rattle.lus_tree.specs.Tree.{Name, Expression}
use Rattle.lus_meaning.specs.Frame.{Frame}
use Rattle.lus_meaning.specs.Scene.{Clock, Instance}
use Rattle.lus_meaning.specs.Cycle.{Place}
use Rattle.sys_meaning.specs.WellTyped.{IsKnown, Stands, ClockFits}
use Rattle.slot_values.specs.Parts.{Standpoint, PartsByRow}
use Rattle.evaluation_laws.specs.Rows.{row_at, knows, scene_there, numbers_there, modes_there, OfEachFrame}
use Rattle.order_laws.specs.Own.{own_modes}

abbrev pub place_there : Instance → Frame → List ℕ → Instance
place_there i f w = (scene_there i f w).place

-- the row of a run, seen from the frame at the end of a way of calls, whose modes ask their own parts
abbrev pub standpoint_there : Instance → Frame → ℕ → List ℕ → Standpoint
standpoint_there i f t w = record {
  top = i;
  frame = f;
  way = w;
  body = λ k. [];
  asked = own_modes w (place_there i f w);
  test = knows (place_there i f w);
  numbers = numbers_there i w;
  modes = modes_there i f w;
  row = row_at i f t;
  instant = t;
}

-- Of an expression of that frame whose own operands are within 128 bits, the operations that are outside are its own one, if that is.
abbrev pub OwnPast : Instance → Frame → ℕ → List ℕ → Type 0
OwnPast i f t w =
    (ns : List Place) (xs : List Name) (c : Clock) (e : Expression) → Stands (place_there i f w) (IsKnown (place_there i f w)) c e →
    ClockFits (place_there i f w) (IsKnown (place_there i f w)) c → PartsByRow (standpoint_there i f t w) ns xs c e

abbrev pub RowsHaveOwnPast : Type 0
RowsHaveOwnPast = OfEachFrame OwnPast
