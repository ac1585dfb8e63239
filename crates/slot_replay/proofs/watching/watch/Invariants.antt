use Rattle.std.proofs.Common.{◌≡◌}
use Rattle.slot_rows.specs.Table.{table_view, value_in}
use Rattle.slot_replay.specs.Conditions.{conditions_view}
use Rattle.slot_replay.specs.Parts.{kept_view}
use Rattle.slot_replay.specs.Answer.{IsKept, seen_in}
use Rattle.slot_replay.specs.Marks.{marks_at, marks_view}
use Rattle.slot_replay.proofs.watching.watch.Given as goal

abbrev pub invariant-loop-instant : goal.invariant-loop-instant
invariant-loop-instant g l = record {
  kept : IsKept (seen_in (table_view l.table)) (conditions_view l.conditions) (g.P.Parts.are_parts l.parts) l.instant
      (kept_view l.progress.parts);
  marks : marks_view l.progress.marks ≡ marks_at (value_in (table_view l.table)) (conditions_view l.conditions) l.instant;
}
