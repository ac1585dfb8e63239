use Rattle.std.proofs.Common.{◌≡◌, drop, map}
use Rattle.lus_types.specs.Marks.{passed_down, row_view}
use Rattle.lus_types.proofs.marks.pass_down.Given as goal

abbrev pub invariant-loop-row : goal.invariant-loop-row
invariant-loop-row l = passed_down l.marks (map row_view (drop l.row-index l.rows)) ≡ passed_down l.initial.marks (map row_view l.rows)
