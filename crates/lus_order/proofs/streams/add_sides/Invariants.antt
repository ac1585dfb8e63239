use Rattle.std.proofs.Common.{◌≡◌, drop}
use Rattle.lus_order.specs.Sides.{equations_view}
use Rattle.lus_order.specs.Streams.{Widened, with_sides}
use Rattle.lus_order.proofs.streams.add_sides.Given as goal

abbrev pub invariant-loop-side : goal.invariant-loop-side
invariant-loop-side l = record {
  names : with_sides l.clocks.names (equations_view (drop l.side-index l.sides)) ≡ with_sides l.initial.clocks.names (equations_view l.sides);
  wider : Widened l.initial.clocks l.clocks;
}
