use Rattle.std.proofs.Common.{arith, true}
use Rattle.lus_tree.specs.View.{expr_view}
use Rattle.lus_types.specs.Sides.{parts_of, sides_view}
use Rattle.lus_types.proofs.Steps.{one_given}
use Rattle.lus_types.proofs.parts.parts_in.Goals as goal

pub loop-side-preserved : goal.loop-side-preserved
loop-side-preserved c =
    one_given (parts_of true) (λ r. expr_view r.now) c.args.sides.now c.loop-side.side-index c.side-item.result (sides_view c.loop-side.all.items)
    (sides_view c.push_parts.new.all.items) _ (omega arith) c.side-item.is c.loop-side.invariant c.in_ok-push_parts.ensures
