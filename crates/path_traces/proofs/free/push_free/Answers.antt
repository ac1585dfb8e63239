use Rattle.std.proofs.Common.{arith, [], ◌∷◌, map}
use Rattle.lus_tree.specs.View.{param_view}
use Rattle.lus_streams.specs.Streams.{params_view}
use Rattle.path_traces.specs.Plans.{unnamed_in}
use Rattle.path_traces.proofs.FreeNames.{one_unnamed}
use Rattle.path_traces.proofs.Steps.{one_added}
use Rattle.path_traces.proofs.free.push_free.Goals as goal

pub loop-param-preserved : goal.loop-param-preserved
loop-param-preserved c =
    one_added (λ z. unnamed_in c.args.defined.now (param_view z ∷ [])) (λ zs. unnamed_in c.args.defined.now (map param_view zs))
    (λ z zs. one_unnamed c.args.defined.now (param_view z) (map param_view zs)) c.args.params.now c.loop-param.param-index c.param-item.result
    (params_view c.loop-param.streams.items) (params_view c.push_if_free.new.streams.items) _ (omega arith) c.param-item.is c.loop-param.invariant
    c.in_ok-push_if_free.ensures
