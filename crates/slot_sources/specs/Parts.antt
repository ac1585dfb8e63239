-- The parts of an instant over slots: each is the resolution of its expression, evaluated where the slot of its clock says so.
use Rattle.std.specs.Prelude.{ℕ, List}
use Rattle.lus_meaning.specs.Scene.{Instance}
use Rattle.lus_evaluation.specs.Part.{Part}
use Rattle.lus_evaluation.specs.Evaluation.{instance_on}
use Rattle.slot_values.specs.Resolution.{Resolution}
use Rattle.slot_values.specs.Resolved.{Numbering, resolution}
use Rattle.evaluation_laws.specs.Rows.{numbers_there}
use Rattle.slot_sources.specs.declared.source.Switch.{Switch}
use Rattle.slot_sources.specs.Sources.{numbering_of, switch_of}

-- what is resolved over in the frame at the end of a way of calls
abbrev pub numbering_there : Instance → List ℕ → Numbering
numbering_there i w = numbering_of (instance_on i w) (numbers_there i w)

abbrev pub part_switch : Instance → Part → Switch
part_switch i q = switch_of (numbering_there i q.way) q.clock

abbrev pub part_resolution : Instance → Part → Resolution
part_resolution i q = resolution (numbering_there i q.way) q.expression
