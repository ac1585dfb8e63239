-- Where the parts of a declaration's conditions are within 128 bits, no operation of their resolutions is outside.
use Rattle.std.specs.Prelude.{◌≡◌, ℕ, ◌<◌, true, List, []}
use Rattle.std.specs.List.{AllByRecursion}
use Rattle.lus_meaning.specs.Scene.{Instance, calls_of}
use Rattle.lus_evaluation.specs.Part.{Part}
use Rattle.lus_evaluation.specs.Frame.{Orders, text_at, frame_text, call_texts}
use Rattle.lus_evaluation.specs.Turn.{condition_parts}
use Rattle.lus_evaluation.specs.Past.{NonePast}
use Rattle.slot_values.specs.Resolution.{Resolution}
use Rattle.slot_values.specs.Evaluated.{SlotValues, outside}
use Rattle.evaluation_laws.specs.Rows.{row_at}
use Rattle.condition_laws.specs.Conditions.{legal_resolutions, property_resolutions}
use Rattle.condition_laws.specs.Laws.{OfEachRun}

-- what is evaluated at an instant for the conditions, in the order in which it would come if it had to wait for nothing
abbrev pub conditions_in_turn : Orders → Instance → List Part
conditions_in_turn o i = condition_parts (text_at (call_texts o [] (calls_of i))) (frame_text o [] i) i

abbrev pub NoneOutside : SlotValues → List Resolution → Type 0
NoneOutside row es = AllByRecursion (λ e. outside row true e ≡ []) es

abbrev pub ConditionsStayWithin : Type 0
ConditionsStayWithin =
    OfEachRun (λ i m f. (t : ℕ) → t < m → (o : Orders) → NonePast i f (conditions_in_turn o i) t →
    NoneOutside (row_at i f t) (legal_resolutions i) × NoneOutside (row_at i f t) (property_resolutions i))
