use Rattle.std.proofs.Common.{◌≡◌, ◌++◌, ◌+◌, ◌*◌, map, drop}
use Rattle.std.specs.List.{AllByRecursion}
use Rattle.sys_frames.specs.Walked.{HasRoomWithin, OfCall}
use Rattle.sys_tables.specs.Numbers.{CallHasRoom}
use Rattle.sys_tables.specs.Views.{linked_view, tables_view}
use Rattle.frame_sources.specs.Views.{each_asked_view}
use Rattle.frame_sources.specs.Walked.{called_modes, modes_within}
use Rattle.frame_sources.proofs.imports.+modes.Given as goal

abbrev pub decreases-called_modes : goal.decreases-called_modes
decreases-called_modes l = 8 * l.depth + 7

abbrev pub decreases-called_mode : goal.decreases-called_mode
decreases-called_mode l = 8 * l.depth + 6

abbrev pub decreases-modes_or_none : goal.decreases-modes_or_none
decreases-modes_or_none l = 8 * l.depth + 5

abbrev pub decreases-modes_within : goal.decreases-modes_within
decreases-modes_within l = 8 * l.depth + 4

abbrev pub decreases-modes_seen : goal.decreases-modes_seen
decreases-modes_seen l = 8 * l.depth + 3

abbrev pub decreases-modes_below : goal.decreases-modes_below
decreases-modes_below l = 8 * l.depth + 2

-- what is there, and what is to come, is all
abbrev pub invariant-called_modes-loop-call : goal.invariant-called_modes-loop-call
invariant-called_modes-loop-call l = record {
  made : each_asked_view l.all.items ++ called_modes (modes_within l.depth (tables_view l.tables.all.now) l.tables.missing)
      (tables_view l.tables.all.now) l.from (map linked_view (drop l.call-index l.calls))
      ≡ called_modes (modes_within l.depth (tables_view l.tables.all.now) l.tables.missing) (tables_view l.tables.all.now) l.from (map linked_view l.calls);
  room : AllByRecursion (CallHasRoom l.from) (map linked_view (drop l.call-index l.calls));
  below : AllByRecursion (OfCall (HasRoomWithin l.depth (tables_view l.tables.all.now)) (tables_view l.tables.all.now) l.from)
      (map linked_view (drop l.call-index l.calls));
}
