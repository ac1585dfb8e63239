use Rattle.std.proofs.Common.{arith, refl, map}
use Rattle.lus_tree.specs.View.{definition_view}
use Rattle.lus_meaning.specs.Scope.{a_fixed}
use Rattle.lus_types.specs.Homes.{declared_view}
use Rattle.lus_types.proofs.Steps.{one_pushed}
use Rattle.lus_types.proofs.declared.push_constants.Goals as goal

pub loop-definition-preserved : goal.loop-definition-preserved
loop-definition-preserved c =
    one_pushed declared_view (λ z. a_fixed (definition_view z))
    (λ zs. map a_fixed (map definition_view zs)) (λ z zs. refl) c.args.definitions.now c.loop-definition.definition-index c.definition-item.result
    c.loop-definition.names.items c.push.new.self.items _ _ (omega arith) c.definition-item.is c.loop-definition.invariant c.in_ok-push.ensures.items refl
