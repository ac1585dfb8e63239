use Rattle.std.proofs.Common.{◌≡◌, ◌++◌, drop, map}
use Rattle.lus_order.specs.ClockCircles.{free_of, free_rows}
use Rattle.number_graphs.specs.Graphs.{graph_view}
use Rattle.lus_order.specs.OwnRows.{numbers_of}
use Rattle.lus_order.specs.Reads.{clock_seen}
use Rattle.lus_order.proofs.clock_circles.free_rows.Given as goal

abbrev pub invariant-loop-clock : goal.invariant-loop-clock
invariant-loop-clock l =
    graph_view l.graph ++ map (λ xs. numbers_of l.clocks.names (free_of l.lefts xs)) (map clock_seen (drop l.clock-index l.clocks.clocks.items))
    ≡ free_rows l.clocks l.lefts
