use Rattle.std.proofs.Common.{arith, map, refl}
use Rattle.lus_tree.specs.View.{param_view}
use Rattle.path_traces.proofs.Steps.{one_pushed}
use Rattle.path_traces.proofs.free.push_all.Goals as goal

pub loop-param-preserved : goal.loop-param-preserved
loop-param-preserved c =
    one_pushed (λ v. param_view v.now) param_view (map param_view) (λ z zs. refl) c.args.params.now c.loop-param.param-index c.param-item.result
    c.loop-param.streams.items c.push.new.self.items _ _ (omega arith) c.param-item.is c.loop-param.invariant c.in_ok-push.ensures.items refl
