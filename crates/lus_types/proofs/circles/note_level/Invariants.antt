use Rattle.std.proofs.Common.{◌≡◌, drop, map}
use Rattle.lus_types.specs.Called.{level_faults}
use Rattle.lus_scopes.specs.Least.{least_view, noted_all}
use Rattle.lus_types.specs.Marks.{link_view}
use Rattle.lus_types.proofs.circles.note_level.Given as goal

abbrev pub invariant-loop-link : goal.invariant-loop-link
invariant-loop-link l = noted_all (least_view l.least) (level_faults l.ranks l.rank (map link_view (drop l.link-index l.links)))
    ≡ noted_all (least_view l.initial.least) (level_faults l.ranks l.rank (map link_view l.links))
