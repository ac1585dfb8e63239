-- All that is evaluated at an instant of the analysed declaration, in the order in which it would come if it had to wait for nothing.
use Rattle.std.specs.Prelude.{List, [], ◌∷◌, ◌++◌, flat_map}
use Rattle.lus_tree.specs.Tree.{Expression, Statement, property}
use Rattle.lus_meaning.specs.Scene.{base, Manner, plain, while_true, as_import, Site, Instance, Instances, no_instances, with_instance, component_of, calls_of}
use Rattle.lus_evaluation.specs.Part.{Part, Setting, wholes}
use Rattle.lus_evaluation.specs.Frame.{ContractText, FrameText, Calls, setting, Orders, text_at, call_texts, frame_text}

abbrev pub property_texts : List Statement → List Expression
property_texts [] = []
property_texts (property l ∷ ss) = l.value ∷ property_texts ss
property_texts (_ ∷ ss) = property_texts ss

-- what a caller owes: the assumptions of the frames of its calls, an import's left out
abbrev pub owed : Site → Manner → ContractText → List Part
owed c (as_import xs) k = []
owed c plain k = k.assumed
owed c (while_true a) k = k.assumed

abbrev pub owed_in_calls : Calls → Instances → List Part
owed_in_calls sub no_instances = []
owed_in_calls sub (with_instance c i is) = owed c c.manner (sub c.number).contract ++ owed_in_calls sub is

-- the conditions: the assumptions; the assertions of each frame; the properties of the body; the guarantees; each ensure behind what its mode requires; what
-- the modes require; and the assumptions that are owed
abbrev pub condition_parts : Calls → FrameText → Instance → List Part
condition_parts sub t i =
    let g : Setting = setting i [] sub t.contract.modes in
    t.contract.assumed ++ t.asserted ++ wholes g base (property_texts (component_of i).body) ++ t.contract.guaranteed
    ++ flat_map (λ m. m.ensured) t.contract.modes ++ flat_map (λ m. m.required) t.contract.modes ++ owed_in_calls sub (calls_of i)

-- the equations first, with their imports and calls, and then the conditions
abbrev pub in_turn : Orders → Instance → List Part
in_turn o i =
    (frame_text o [] i).body ++ condition_parts (text_at (call_texts o [] (calls_of i))) (frame_text o [] i) i
