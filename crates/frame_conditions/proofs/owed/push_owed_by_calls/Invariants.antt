use Rattle.std.proofs.Common.{◌≡◌, ◌++◌, map, drop}
use Rattle.std.specs.List.{AllByRecursion}
use Rattle.sys_frames.specs.Walked.{HasRoomWithin, OfCall}
use Rattle.sys_tables.specs.Numbers.{CallHasRoom}
use Rattle.sys_tables.specs.Views.{linked_view, tables_view}
use Rattle.frame_conditions.specs.Views.{resolutions_view}
use Rattle.frame_conditions.specs.Walked.{conditions_within, owed_by_calls}
use Rattle.frame_conditions.proofs.owed.push_owed_by_calls.Given as goal

-- what is there, and what is to come, is all
abbrev pub invariant-loop-call : goal.invariant-loop-call
invariant-loop-call l = record {
  made : resolutions_view l.resolutions.items ++ owed_by_calls (conditions_within l.depth (tables_view l.tables.all.now) l.tables.missing)
      (tables_view l.tables.all.now) l.from (map linked_view (drop l.call-index l.calls))
      ≡ resolutions_view l.initial.resolutions.items ++ owed_by_calls (conditions_within l.depth (tables_view l.tables.all.now) l.tables.missing)
      (tables_view l.tables.all.now) l.from (map linked_view l.calls);
  room : AllByRecursion (CallHasRoom l.from) (map linked_view (drop l.call-index l.calls));
  below : AllByRecursion (OfCall (HasRoomWithin l.depth (tables_view l.tables.all.now)) (tables_view l.tables.all.now) l.from)
      (map linked_view (drop l.call-index l.calls));
}
