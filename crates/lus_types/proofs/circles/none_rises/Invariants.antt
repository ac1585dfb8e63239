use Rattle.std.proofs.Common.{◌≡◌, drop, map}
use Rattle.lus_types.specs.Called.{none_rises}
use Rattle.lus_types.specs.Marks.{row_view}
use Rattle.lus_types.proofs.circles.none_rises.Given as goal

abbrev pub invariant-loop-row : goal.invariant-loop-row
invariant-loop-row l = none_rises l.ranks (map row_view (drop l.row-index l.rows)) ≡ none_rises l.ranks (map row_view l.rows)
