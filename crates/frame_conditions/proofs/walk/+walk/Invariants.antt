use Rattle.std.proofs.Common.{◌≡◌, ◌++◌, ◌+◌, ◌*◌, map, drop}
use Rattle.std.specs.List.{AllByRecursion}
use Rattle.sys_frames.specs.Walked.{HasRoomWithin, OfCall}
use Rattle.sys_tables.specs.Numbers.{CallHasRoom}
use Rattle.sys_tables.specs.Views.{linked_view, tables_view}
use Rattle.frame_conditions.specs.Views.{resolutions_view}
use Rattle.frame_conditions.specs.Walked.{asserts_within, calls_asserts}
use Rattle.frame_conditions.proofs.walk.+walk.Given as goal

abbrev pub decreases-visit_calls : goal.decreases-visit_calls
decreases-visit_calls l = 8 * l.depth + 7

abbrev pub decreases-visit_call : goal.decreases-visit_call
decreases-visit_call l = 8 * l.depth + 6

abbrev pub decreases-visit_or_none : goal.decreases-visit_or_none
decreases-visit_or_none l = 8 * l.depth + 5

abbrev pub decreases-visit_frame : goal.decreases-visit_frame
decreases-visit_frame l = 8 * l.depth + 4

abbrev pub decreases-visit_below : goal.decreases-visit_below
decreases-visit_below l = 8 * l.depth + 3

-- what is there, and what is to come, is all
abbrev pub invariant-visit_calls-loop-call : goal.invariant-visit_calls-loop-call
invariant-visit_calls-loop-call l = record {
  made : resolutions_view l.resolutions.items ++ calls_asserts (asserts_within l.depth (tables_view l.tables.all.now) l.tables.missing)
      (tables_view l.tables.all.now) l.from (map linked_view (drop l.call-index l.calls))
      ≡ resolutions_view l.initial.resolutions.items ++ calls_asserts (asserts_within l.depth (tables_view l.tables.all.now) l.tables.missing)
      (tables_view l.tables.all.now) l.from (map linked_view l.calls);
  room : AllByRecursion (CallHasRoom l.from) (map linked_view (drop l.call-index l.calls));
  below : AllByRecursion (OfCall (HasRoomWithin l.depth (tables_view l.tables.all.now)) (tables_view l.tables.all.now) l.from)
      (map linked_view (drop l.call-index l.calls));
}
