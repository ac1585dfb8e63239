use Rattle.number_graphs.specs.Graphs.{graph_view}
use Rattle.number_graphs.proofs.OnCircles.{AreMarked}
use Rattle.number_graphs.proofs.circles.marked_by_search.Given as goal

abbrev pub invariant-loop-number : goal.invariant-loop-number
invariant-loop-number l = AreMarked (graph_view l.graph) l.number l.marks.items
