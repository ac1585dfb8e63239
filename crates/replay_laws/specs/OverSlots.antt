-- The conditions of a declaration, and the parts of an instant, over slots.
use Rattle.std.specs.Prelude.{◌≡◌, ℕ, List, Some, map, slice_get}
use Rattle.lus_tree.specs.Tree.{Component, Program}
use Rattle.lus_meaning.specs.ClockFaults.{components}
use Rattle.lus_meaning.specs.Program.{instance_of}
use Rattle.lus_meaning.specs.Scene.{Instance}
use Rattle.lus_evaluation.specs.Part.{Part}
use Rattle.lus_evaluation.specs.Evaluation.{IsEvaluation}
use Rattle.slot_sources.specs.Parts.{part_switch, part_resolution}
use Rattle.condition_laws.specs.Conditions.{legal_resolutions, property_resolutions}
use Rattle.slot_replay.specs.Conditions.{Conditions}
use Rattle.slot_replay.specs.Parts.{Part as SlotPart}

abbrev pub conditions_over : Instance → Conditions
conditions_over i = record { legal = legal_resolutions i; properties = property_resolutions i }

abbrev pub over_slots : Instance → Part → SlotPart
over_slots i q = record { clock = part_switch i q; expression = part_resolution i q }

-- the parts of an evaluation of an instant, over slots
pub record ArePartsOf (ps : List SlotPart) (i : Instance) : Type 0 where
  pub parts : List Part
  pub evaluation : IsEvaluation i parts
  pub over : ps ≡ map (over_slots i) parts

-- of the declaration of that number, constants left out
abbrev pub AreDeclaredParts : Program → ℕ → List SlotPart → Type 0
AreDeclaredParts p k ps = (d : Component) → slice_get (components p) k ≡ Some d → ArePartsOf ps (instance_of p d)
