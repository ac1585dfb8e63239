use Rattle.std.proofs.Common.{◌≡◌, ◌&&◌, ◌||◌, map, drop}
use Rattle.slot_values.specs.Resolution.{resolved_view}
use Rattle.slot_values.specs.Evaluated.{slots_in}
use Rattle.slot_replay.specs.Conditions.{all_true, any_outside}
use Rattle.slot_replay.proofs.truth.truths_in.Given as goal

abbrev pub invariant-loop-condition : goal.invariant-loop-condition
invariant-loop-condition l = record {
  truth : (l.all && all_true (slots_in l.row) (map resolved_view (drop l.condition-index l.conditions)))
      ≡ all_true (slots_in l.row) (map resolved_view l.conditions);
  outside : (l.outside || any_outside (slots_in l.row) (map resolved_view (drop l.condition-index l.conditions)))
      ≡ any_outside (slots_in l.row) (map resolved_view l.conditions);
}
