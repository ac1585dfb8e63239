use Rattle.std.proofs.Common.{◌≡◌, drop, []}
use Rattle.lus_order.specs.Sides.{equations_view}
use Rattle.lus_order.specs.Streams.{with_sides}
use Rattle.lus_order.proofs.clock_circles.lefts_of.Given as goal

abbrev pub invariant-loop-side : goal.invariant-loop-side
invariant-loop-side l = with_sides l.table (equations_view (drop l.side-index l.sides)) ≡ with_sides [] (equations_view l.sides)
