use Rattle.std.proofs.Common.{refl, map}
use Rattle.lus_tree.specs.View.{param_view}
use Rattle.lus_order.proofs.Steps.{one_pushed}
use Rattle.lus_order.proofs.streams.push_params.Goals as goal

pub loop-param-preserved : goal.loop-param-preserved
loop-param-preserved c =
    one_pushed (λ r. param_view r.now) param_view (map param_view) (λ z zs. refl) c.args.more.now c.loop-param.param-index c.param-item.result
    c.loop-param.params.items c.push.new.self.items _ _ c.loop-param-test.true c.param-item.is c.loop-param.invariant c.in_ok-push.ensures.items refl
