use Rattle.std.proofs.Common.{refl, map}
use Rattle.lus_tree.specs.View.{param_view}
use Rattle.lus_order.specs.Streams.{names_of, params_view}
use Rattle.lus_order.proofs.Steps.{one_pushed}
use Rattle.lus_order.proofs.streams.texts.Goals as goal

pub loop-param-preserved : goal.loop-param-preserved
loop-param-preserved c =
    one_pushed (λ x. x.now) (λ z. (param_view z.now).name.text) (λ zs. names_of (params_view zs)) (λ z zs. refl) c.args.params.now c.loop-param.param-index
    c.param-item.result c.loop-param.names.items c.push.new.self.items _ _ c.loop-param-test.true c.param-item.is c.loop-param.invariant
    c.in_ok-push.ensures.items c.as_str.ensures.value
