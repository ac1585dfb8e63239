use Rattle.std.proofs.Common.{refl, map}
use Rattle.lus_tree.specs.View.{param_view}
use Rattle.lus_order.specs.Reads.{clock_seen}
use Rattle.lus_order.specs.Streams.{params_view, stream_clock}
use Rattle.lus_order.proofs.Steps.{one_pushed}
use Rattle.lus_order.proofs.streams.clock_names.Goals as goal

pub loop-param-preserved : goal.loop-param-preserved
loop-param-preserved c =
    one_pushed clock_seen (λ z. stream_clock (param_view z.now)) (λ zs. map stream_clock (params_view zs)) (λ z zs. refl) c.args.params.now
    c.loop-param.param-index c.param-item.result c.loop-param.clocks.items c.push.new.self.items c.clock_name.result _ c.loop-param-test.true c.param-item.is
    c.loop-param.invariant c.in_ok-push.ensures.items c.clock_name.ensures
