use Rattle.std.proofs.Common.{arith}
use Rattle.lus_tree.specs.View.{item_view}
use Rattle.lus_types.specs.Called.{statement_sides}
use Rattle.lus_types.specs.Sides.{sides_view}
use Rattle.lus_types.proofs.Steps.{one_given}
use Rattle.lus_types.proofs.sides.push_body.Goals as goal

pub loop-item-preserved : goal.loop-item-preserved
loop-item-preserved c =
    one_given statement_sides item_view c.args.items.now c.loop-item.item-index c.item-item.result (sides_view c.loop-item.sides.items)
    (sides_view c.push_item.new.sides.items) _ (omega arith) c.item-item.is c.loop-item.invariant c.in_ok-push_item.ensures
