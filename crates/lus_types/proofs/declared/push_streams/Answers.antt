use Rattle.std.proofs.Common.{arith, refl, map}
use Rattle.lus_tree.specs.View.{param_view}
use Rattle.lus_meaning.specs.Scope.{a_stream}
use Rattle.lus_scopes.specs.Scopes.{role_view}
use Rattle.lus_types.specs.Homes.{declared_view}
use Rattle.lus_types.proofs.Steps.{one_pushed}
use Rattle.lus_types.proofs.declared.push_streams.Goals as goal

pub loop-param-preserved : goal.loop-param-preserved
loop-param-preserved c =
    one_pushed declared_view (λ z. a_stream (role_view c.args.role) (param_view z))
    (λ zs. map (a_stream (role_view c.args.role)) (map param_view zs)) (λ z zs. refl) c.args.params.now c.loop-param.param-index c.param-item.result
    c.loop-param.names.items c.push.new.self.items _ _ (omega arith) c.param-item.is c.loop-param.invariant c.in_ok-push.ensures.items refl
