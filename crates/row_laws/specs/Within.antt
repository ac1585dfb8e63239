-- Which parts of the frame at the end of a way of calls are evaluated, and what the row of a run says of them.
use Rattle.std.specs.Prelude.{ℕ, List, map}
use Rattle.lus_tree.specs.Tree.{Name, Expression}
use Rattle.lus_meaning.specs.Frame.{Frame}
use Rattle.lus_meaning.specs.Scene.{Clock, Instance, calls_of}
use Rattle.lus_meaning.specs.Cycle.{Place as NeededPlace}
use Rattle.sys_meaning.specs.WellTyped.{IsKnown, Stands, ClockFits}
use Rattle.lus_evaluation.specs.Frame.{Orders, text_at, call_texts, frame_text}
use Rattle.slot_values.specs.Parts.{Standpoint, scene_at, PartsByRow, ModesWithin}
use Rattle.evaluation_laws.specs.Rows.{row_at, knows, scene_there, numbers_there, modes_there, OfEachFrame}

-- the row of a run, seen from that frame, in which calls evaluate and modes ask what the text of the frame has
abbrev pub standpoint : Orders → Instance → Frame → ℕ → List ℕ → Standpoint
standpoint o i f t w =
    let j : Instance = (scene_there i f w).place in
    record {
      top = i;
      frame = f;
      way = w;
      body = λ k. (text_at (call_texts o w (calls_of j)) k).body;
      asked = map (λ m. (m.key, m.asked)) (frame_text o w j).contract.modes;
      test = knows j;
      numbers = numbers_there i w;
      modes = modes_there i f w;
      row = row_at i f t;
      instant = t;
    }

-- where what a mode requires is within 128 bits, its resolution has no operation outside
abbrev pub ModesStayWithin : Type 0
ModesStayWithin = OfEachFrame (λ i f t w. (o : Orders) → ModesWithin (standpoint o i f t w))

-- and what the operations of an expression's resolution say of its parts
abbrev pub RowsTellParts : Type 0
RowsTellParts =
    OfEachFrame (λ i f t w. (o : Orders) (ns : List NeededPlace) (xs : List Name) (c : Clock) (e : Expression) →
    let v : Standpoint = standpoint o i f t w in
    Stands (scene_at v).place (IsKnown (scene_at v).place) c e → ClockFits (scene_at v).place (IsKnown (scene_at v).place) c →
    PartsByRow v ns xs c e)
