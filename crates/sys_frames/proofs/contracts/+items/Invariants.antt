use Rattle.std.proofs.Common.{◌≡◌, ◌++◌, ◌+◌, ◌*◌, map, drop}
use Rattle.std.specs.List.{AllByRecursion}
use Rattle.sys_contracts.specs.Views.{all_items_view}
use Rattle.sys_tables.specs.Numbers.{CallHasRoom}
use Rattle.sys_tables.specs.Views.{linked_view, tables_view}
use Rattle.sys_frames.specs.Walked.{HasRoomWithin, OfCall, called_items, items_within}
use Rattle.sys_frames.proofs.contracts.+items.Given as goal

abbrev pub decreases-called_items : goal.decreases-called_items
decreases-called_items l = 8 * l.depth + 7

abbrev pub decreases-called_item : goal.decreases-called_item
decreases-called_item l = 8 * l.depth + 6

abbrev pub decreases-items_or_none : goal.decreases-items_or_none
decreases-items_or_none l = 8 * l.depth + 5

abbrev pub decreases-items_within : goal.decreases-items_within
decreases-items_within l = 8 * l.depth + 4

abbrev pub decreases-items_seen : goal.decreases-items_seen
decreases-items_seen l = 8 * l.depth + 3

abbrev pub decreases-items_below : goal.decreases-items_below
decreases-items_below l = 8 * l.depth + 2

-- what is there, and what is to come, is all
abbrev pub invariant-called_items-loop-call : goal.invariant-called_items-loop-call
invariant-called_items-loop-call l = record {
  made : all_items_view l.all.items ++ called_items (items_within l.depth (tables_view l.tables.all.now) l.tables.missing)
      (tables_view l.tables.all.now) l.from (map linked_view (drop l.call-index l.calls))
      ≡ called_items (items_within l.depth (tables_view l.tables.all.now) l.tables.missing) (tables_view l.tables.all.now) l.from (map linked_view l.calls);
  room : AllByRecursion (CallHasRoom l.from) (map linked_view (drop l.call-index l.calls));
  below : AllByRecursion (OfCall (HasRoomWithin l.depth (tables_view l.tables.all.now)) (tables_view l.tables.all.now) l.from)
      (map linked_view (drop l.call-index l.calls));
}
