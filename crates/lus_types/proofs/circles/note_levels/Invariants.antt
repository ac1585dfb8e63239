use Rattle.std.proofs.Common.{◌≡◌, drop, map}
use Rattle.lus_types.specs.Called.{all_level_faults}
use Rattle.lus_scopes.specs.Least.{least_view, noted_all}
use Rattle.lus_types.specs.Marks.{row_view}
use Rattle.lus_types.proofs.circles.note_levels.Given as goal

abbrev pub invariant-loop-row : goal.invariant-loop-row
invariant-loop-row l = noted_all (least_view l.least) (all_level_faults l.ranks (map row_view (drop l.row-index l.rows)))
    ≡ noted_all (least_view l.initial.least) (all_level_faults l.ranks (map row_view l.rows))
