-- What contracts see of conditions.
use Rattle.std.specs.Prelude.{List, map}
use Rattle.slot_values.specs.Resolution.{Resolution, resolved_view}
use Rattle.slot_values.specs.declared.resolved.Resolved.{Resolved}
use Rattle.frame_sources.specs.Views.{all_asked_view}
use Rattle.frame_conditions.specs.declared.conditions.Conditions.{Conditions as ConditionsCode}
use Rattle.frame_conditions.specs.Conditioned.{Conditions}

abbrev pub resolutions_view : List Resolved → List Resolution
resolutions_view = map resolved_view

abbrev pub conditions_view : ConditionsCode → Conditions
conditions_view r = record {
  assumes = resolutions_view r.assumes.items;
  guarantees = resolutions_view r.guarantees.items;
  modes = all_asked_view r.modes.items;
  ensured = resolutions_view r.ensured.items;
}

abbrev pub all_conditions_view : List ConditionsCode → List Conditions
all_conditions_view = map conditions_view
