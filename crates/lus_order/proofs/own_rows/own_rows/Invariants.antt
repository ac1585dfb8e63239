use Rattle.std.proofs.Common.{◌≡◌, drop}
use Rattle.number_graphs.specs.Graphs.{graph_view}
use Rattle.lus_order.specs.OwnRows.{own_rows, with_equations}
use Rattle.lus_order.specs.Rows.{modes_view}
use Rattle.lus_order.specs.Sides.{equations_view}
use Rattle.lus_order.proofs.own_rows.own_rows.Given as goal

abbrev pub invariant-loop-side : goal.invariant-loop-side
invariant-loop-side l = with_equations l.clocks l.callees (modes_view l.modes) (graph_view l.graph) (equations_view (drop l.side-index l.sides))
    ≡ own_rows l.clocks l.callees (modes_view l.modes) (equations_view l.sides)
