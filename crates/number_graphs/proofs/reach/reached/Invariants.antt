use Rattle.std.proofs.Common.{◌-◌, length}
use Rattle.number_graphs.specs.Graphs.{graph_view}
use Rattle.number_graphs.specs.Visits.{state_view}
use Rattle.number_graphs.proofs.Searches.{Searching}
use Rattle.number_graphs.proofs.reach.reached.Given as goal

abbrev pub invariant-loop-turn : goal.invariant-loop-turn
invariant-loop-turn l = Searching (graph_view l.graph) l.start (state_view l.search) l.turn

abbrev pub decreases-loop-turn : goal.decreases-loop-turn
decreases-loop-turn l = length (graph_view l.graph) - l.turn
