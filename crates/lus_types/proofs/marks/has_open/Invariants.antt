use Rattle.std.proofs.Common.{◌≡◌, drop, map}
use Rattle.lus_types.specs.Marks.{has_open, row_view}
use Rattle.lus_types.proofs.marks.has_open.Given as goal

abbrev pub invariant-loop-row : goal.invariant-loop-row
invariant-loop-row l = has_open l.marks (map row_view (drop l.row-index l.rows)) ≡ has_open l.marks (map row_view l.rows)
