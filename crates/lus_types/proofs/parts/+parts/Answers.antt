use Rattle.std.proofs.Common.{arith, refl, map}
use Rattle.lus_tree.specs.View.{expr_view, joined}
use Rattle.lus_types.specs.Sides.{parts_among, parts_of, sides_view}
use Rattle.lus_types.proofs.Steps.{one_added}
use Rattle.lus_types.proofs.parts.+parts.Goals as goal

pub push_parts_among-loop-value-preserved : goal.push_parts_among-loop-value-preserved
push_parts_among-loop-value-preserved t c =
    one_added (λ z. parts_of c.args.delayed (expr_view z)) (λ zs. parts_among c.args.delayed (joined (map expr_view zs))) (λ z zs. refl)
    c.args.values.now c.loop-value.value-index c.value-item.result (sides_view c.loop-value.all.items)
    (sides_view c.push_parts.new.all.items) _ (omega arith) c.value-item.is c.loop-value.invariant c.in_ok-push_parts.ensures
