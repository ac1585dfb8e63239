use Rattle.std.proofs.Common.{rules}
use Rattle.number_graphs.specs.Graphs.{graph_view}
use Rattle.number_graphs.proofs.OnCircles.{none_of_ordered}
use Rattle.number_graphs.proofs.circles.on_circles.Goals as goal

pub returns-then-branch : goal.returns-then-branch
returns-then-branch c = none_of_ordered (graph_view c.args.graph.now) c.len.result c.in_ok-marks.marks.items (c.in_ok-is_ordered.ensures c.if-branch.true)
    (search rules) c.len.ensures
