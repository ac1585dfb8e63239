use Rattle.std.proofs.Common.{arith, refl, map}
use Rattle.lus_tree.specs.View.{expr_view, named_view}
use Rattle.lus_types.specs.Called.{values_of}
use Rattle.lus_types.proofs.Steps.{one_pushed}
use Rattle.lus_types.proofs.sides.push_labelled.Goals as goal

pub loop-named-preserved : goal.loop-named-preserved
loop-named-preserved c =
    one_pushed (λ r. expr_view r.now) (λ z. (named_view z).value) (λ zs. values_of (map named_view zs)) (λ z zs. refl) c.args.labelled.now c.loop-named.named-index c.named-item.result c.loop-named.sides.items
    c.push.new.self.items _ _ (omega arith) c.named-item.is c.loop-named.invariant c.in_ok-push.ensures.items refl
