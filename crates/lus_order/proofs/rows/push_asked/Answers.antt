use Rattle.std.proofs.Common.{[]}
use Rattle.lus_tree.specs.View.{named_view}
use Rattle.lus_order.specs.Rows.{modes_view, row_in}
use Rattle.lus_order.proofs.Steps.{one_given}
use Rattle.lus_order.proofs.rows.push_asked.Goals as goal

pub loop-required-preserved : goal.loop-required-preserved
loop-required-preserved c =
    one_given (λ r. row_in c.args.clocks.now c.args.callees.now (modes_view c.args.modes.now) [] r.value) named_view
    c.args.requires_.now c.loop-required.required-index c.required-item.result c.loop-required.row.items c.push_expression.new.row.items _
    c.loop-required-test.true c.required-item.is c.loop-required.invariant c.in_ok-push_expression.ensures
