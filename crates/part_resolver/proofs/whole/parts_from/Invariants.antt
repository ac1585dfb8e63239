use Rattle.std.proofs.Common.{◌≡◌, ◌++◌, map, drop}
use Rattle.evaluation_parts.specs.PartViews.{parts_view}
use Rattle.slot_replay.specs.Parts.{part_view}
use Rattle.sys_tables.specs.Views.{tables_view}
use Rattle.part_resolver.specs.Seen.{AreKept}
use Rattle.part_resolver.specs.SlotParts.{parts_at}
use Rattle.part_resolver.proofs.whole.parts_from.Given as goal

-- what is there, and what is to come, is all; and what is kept is seen
abbrev pub invariant-loop-part : goal.invariant-loop-part
invariant-loop-part l = record {
  made : map part_view l.resolved.items ++ parts_at (tables_view l.tables.all.now) l.tables.missing l.root (parts_view (drop l.part-index l.parts))
      ≡ parts_at (tables_view l.tables.all.now) l.tables.missing l.root (parts_view l.parts);
  kept : AreKept (tables_view l.tables.all.now) l.tables.missing l.kept.items;
}
