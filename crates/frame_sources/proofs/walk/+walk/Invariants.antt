use Rattle.std.proofs.Common.{◌≡◌, ◌++◌, ◌+◌, ◌*◌, map, drop}
use Rattle.std.specs.List.{AllByRecursion}
use Rattle.sys_frames.specs.Walked.{HasRoomWithin, OfCall}
use Rattle.sys_tables.specs.Numbers.{CallHasRoom}
use Rattle.sys_tables.specs.Views.{linked_view, tables_view}
use Rattle.sys_texts.specs.Views.{sight_view}
use Rattle.frame_sources.specs.Views.{all_asked_view, sources_view}
use Rattle.frame_sources.specs.Walked.{calls_sources, sources_within}
use Rattle.frame_sources.proofs.walk.+walk.Given as goal

abbrev pub decreases-visit_calls : goal.decreases-visit_calls
decreases-visit_calls l = 8 * l.depth + 7

abbrev pub decreases-visit_placed : goal.decreases-visit_placed
decreases-visit_placed l = 8 * l.depth + 6

abbrev pub decreases-visit_call : goal.decreases-visit_call
decreases-visit_call l = 8 * l.depth + 5

abbrev pub decreases-visit_or_none : goal.decreases-visit_or_none
decreases-visit_or_none l = 8 * l.depth + 4

abbrev pub decreases-visit_frame : goal.decreases-visit_frame
decreases-visit_frame l = 8 * l.depth + 3

abbrev pub decreases-visit_seen : goal.decreases-visit_seen
decreases-visit_seen l = 8 * l.depth + 2

abbrev pub decreases-visit_below : goal.decreases-visit_below
decreases-visit_below l = 8 * l.depth + 1

-- what is there, and what is to come, is all
abbrev pub invariant-visit_calls-loop-place : goal.invariant-visit_calls-loop-place
invariant-visit_calls-loop-place l = record {
  made : sources_view l.sources.items ++ calls_sources (sources_within l.depth (tables_view l.tables.all.now) l.tables.missing) (tables_view l.tables.all.now)
      (sight_view l.sight) (all_asked_view l.modes) l.from l.place (map linked_view (drop l.place l.calls))
      ≡ sources_view l.initial.sources.items ++ calls_sources (sources_within l.depth (tables_view l.tables.all.now) l.tables.missing) (tables_view l.tables.all.now)
      (sight_view l.sight) (all_asked_view l.modes) l.from 0 (map linked_view l.calls);
  room : AllByRecursion (CallHasRoom l.from) (map linked_view (drop l.place l.calls));
  below : AllByRecursion (OfCall (HasRoomWithin l.depth (tables_view l.tables.all.now)) (tables_view l.tables.all.now) l.from)
      (map linked_view (drop l.place l.calls));
}
