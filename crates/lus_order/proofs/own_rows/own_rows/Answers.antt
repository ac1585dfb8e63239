use Rattle.std.proofs.Common.{refl}
use Rattle.number_graphs.specs.Graphs.{graph_view}
use Rattle.lus_order.specs.OwnRows.{with_equation, with_equations}
use Rattle.lus_order.specs.Rows.{modes_view}
use Rattle.lus_order.specs.Sides.{equation_view, equations_view}
use Rattle.lus_order.proofs.Steps.{one_changed}
use Rattle.lus_order.proofs.own_rows.own_rows.Goals as goal

pub loop-side-preserved : goal.loop-side-preserved
loop-side-preserved c =
    one_changed (λ g zs. with_equations c.args.clocks.now c.args.callees.now (modes_view c.args.modes.now) g (equations_view zs))
    (λ g z. with_equation c.args.clocks.now c.args.callees.now (modes_view c.args.modes.now) g (equation_view z)) (λ g z zs. refl)
    c.args.sides.now c.loop-side.side-index c.side-item.result (graph_view c.loop-side.graph) (graph_view c.add_equation.new.graph) _
    c.loop-side-test.true c.side-item.is c.loop-side.invariant c.in_ok-add_equation.ensures
