use Rattle.std.proofs.Common.{◌≡◌, ◌++◌, ◌||◌, map, length, drop}
use Rattle.slot_values.specs.Resolution.{resolved_view}
use Rattle.slot_values.specs.Evaluated.{slots_in}
use Rattle.slot_replay.specs.Conditions.{any_outside}
use Rattle.slot_replay.specs.Marks.{noted}
use Rattle.slot_replay.proofs.marks.noted.Given as goal

abbrev pub invariant-loop-property : goal.invariant-loop-property
invariant-loop-property l = record {
  noted : l.new.items
      ++ noted (slots_in l.row) l.counts l.instant (length l.new.items) (map resolved_view (drop l.property-index l.properties)) l.broken
      ≡ noted (slots_in l.row) l.counts l.instant 0 (map resolved_view l.properties) l.broken;
  outside : (l.outside || any_outside (slots_in l.row) (map resolved_view (drop l.property-index l.properties)))
      ≡ any_outside (slots_in l.row) (map resolved_view l.properties);
}
