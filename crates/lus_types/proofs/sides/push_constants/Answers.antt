use Rattle.std.proofs.Common.{arith, refl, map}
use Rattle.lus_tree.specs.View.{definition_view, expr_view}
use Rattle.lus_types.specs.Called.{constant_sides}
use Rattle.lus_types.proofs.Steps.{one_pushed}
use Rattle.lus_types.proofs.sides.push_constants.Goals as goal

pub loop-constant-preserved : goal.loop-constant-preserved
loop-constant-preserved c =
    one_pushed (λ r. expr_view r.now) (λ z. (definition_view z).value) (λ zs. constant_sides (map definition_view zs)) (λ z zs. refl) c.args.constants.now c.loop-constant.constant-index c.constant-item.result c.loop-constant.sides.items
    c.push.new.self.items _ _ (omega arith) c.constant-item.is c.loop-constant.invariant c.in_ok-push.ensures.items refl
