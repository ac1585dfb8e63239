use Rattle.std.proofs.Common.{arith, refl, map}
use Rattle.lus_tree.specs.View.{expr_view}
use Rattle.lus_types.proofs.Steps.{one_pushed}
use Rattle.lus_types.proofs.sides.push_arguments.Goals as goal

pub loop-argument-preserved : goal.loop-argument-preserved
loop-argument-preserved c =
    one_pushed (λ r. expr_view r.now) expr_view (map expr_view) (λ z zs. refl) c.args.arguments.now c.loop-argument.argument-index c.argument-item.result c.loop-argument.sides.items
    c.push.new.self.items _ _ (omega arith) c.argument-item.is c.loop-argument.invariant c.in_ok-push.ensures.items refl
