use Rattle.std.proofs.Common.{◌≡◌, ◌++◌, ◌+◌, ◌*◌, map, drop}
use Rattle.std.specs.List.{AllByRecursion}
use Rattle.sys_tables.specs.Numbers.{CallHasRoom}
use Rattle.sys_tables.specs.Views.{linked_view, tables_view}
use Rattle.sys_frames.specs.Walked.{HasRoomWithin, OfCall}
use Rattle.trace_fits.specs.Views.{slotted_view}
use Rattle.trace_fits.specs.Walked.{calls_listed, listed_within}
use Rattle.trace_fits.proofs.walk.+walk.Given as goal

abbrev pub decreases-visit_frame : goal.decreases-visit_frame
decreases-visit_frame l = 4 * l.depth

abbrev pub decreases-visit_calls : goal.decreases-visit_calls
decreases-visit_calls l = 4 * l.depth + 3

abbrev pub decreases-visit_call : goal.decreases-visit_call
decreases-visit_call l = 4 * l.depth + 2

abbrev pub decreases-visit_or_none : goal.decreases-visit_or_none
decreases-visit_or_none l = 4 * l.depth + 1

-- what is there, and what is to come, is all
abbrev pub invariant-visit_calls-loop-call : goal.invariant-visit_calls-loop-call
invariant-visit_calls-loop-call l = record {
  made : map slotted_view l.list.items ++ calls_listed (listed_within (tables_view l.tables.all.now) l.tables.missing l.tables.instants l.depth)
      (tables_view l.tables.all.now) l.from l.path (map linked_view (drop l.call-index l.calls))
      ≡ map slotted_view l.initial.list.items ++ calls_listed (listed_within (tables_view l.tables.all.now) l.tables.missing l.tables.instants l.depth)
      (tables_view l.tables.all.now) l.from l.path (map linked_view l.calls);
  room : AllByRecursion (CallHasRoom l.from) (map linked_view (drop l.call-index l.calls));
  below : AllByRecursion (OfCall (HasRoomWithin l.depth (tables_view l.tables.all.now)) (tables_view l.tables.all.now) l.from)
      (map linked_view (drop l.call-index l.calls));
}
