use Rattle.std.proofs.Common.{◌≡◌, ◌++◌, drop, map}
use Rattle.number_graphs.specs.Graphs.{graph_view}
use Rattle.lus_order.specs.OwnRows.{clock_rows, numbers_of}
use Rattle.lus_order.specs.Reads.{clock_seen}
use Rattle.lus_order.proofs.own_rows.clock_rows.Given as goal

abbrev pub invariant-loop-clock : goal.invariant-loop-clock
invariant-loop-clock l = graph_view l.graph ++ map (numbers_of l.clocks.names) (map clock_seen (drop l.clock-index l.clocks.clocks.items)) ≡ clock_rows l.clocks
