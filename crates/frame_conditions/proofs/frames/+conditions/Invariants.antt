use Rattle.std.proofs.Common.{◌≡◌, ◌++◌, ◌+◌, ◌*◌, map, drop}
use Rattle.std.specs.List.{AllByRecursion}
use Rattle.sys_frames.specs.Walked.{HasRoomWithin, OfCall}
use Rattle.sys_tables.specs.Numbers.{CallHasRoom}
use Rattle.sys_tables.specs.Views.{linked_view, tables_view}
use Rattle.frame_conditions.specs.Views.{all_conditions_view}
use Rattle.frame_conditions.specs.Walked.{called_each, conditions_within}
use Rattle.frame_conditions.proofs.frames.+conditions.Given as goal

abbrev pub decreases-called_each : goal.decreases-called_each
decreases-called_each l = 8 * l.depth + 7

abbrev pub decreases-called_one : goal.decreases-called_one
decreases-called_one l = 8 * l.depth + 6

abbrev pub decreases-conditions_or_none : goal.decreases-conditions_or_none
decreases-conditions_or_none l = 8 * l.depth + 5

abbrev pub decreases-conditions_within : goal.decreases-conditions_within
decreases-conditions_within l = 8 * l.depth + 4

abbrev pub decreases-conditions_seen : goal.decreases-conditions_seen
decreases-conditions_seen l = 8 * l.depth + 3

abbrev pub decreases-conditions_below : goal.decreases-conditions_below
decreases-conditions_below l = 8 * l.depth + 2

-- what is there, and what is to come, is all
abbrev pub invariant-called_each-loop-call : goal.invariant-called_each-loop-call
invariant-called_each-loop-call l = record {
  made : all_conditions_view l.all.items ++ called_each (conditions_within l.depth (tables_view l.tables.all.now) l.tables.missing)
      (tables_view l.tables.all.now) l.from (map linked_view (drop l.call-index l.calls))
      ≡ called_each (conditions_within l.depth (tables_view l.tables.all.now) l.tables.missing) (tables_view l.tables.all.now) l.from (map linked_view l.calls);
  room : AllByRecursion (CallHasRoom l.from) (map linked_view (drop l.call-index l.calls));
  below : AllByRecursion (OfCall (HasRoomWithin l.depth (tables_view l.tables.all.now)) (tables_view l.tables.all.now) l.from)
      (map linked_view (drop l.call-index l.calls));
}
