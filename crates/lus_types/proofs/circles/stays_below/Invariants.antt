use Rattle.std.proofs.Common.{◌≡◌, drop, map}
use Rattle.lus_types.specs.Called.{stays_below}
use Rattle.lus_types.specs.Marks.{link_view}
use Rattle.lus_types.proofs.circles.stays_below.Given as goal

abbrev pub invariant-loop-link : goal.invariant-loop-link
invariant-loop-link l = stays_below l.ranks l.rank (map link_view (drop l.link-index l.links)) ≡ stays_below l.ranks l.rank (map link_view l.links)
