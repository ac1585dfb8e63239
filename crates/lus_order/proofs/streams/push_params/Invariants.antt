use Rattle.std.proofs.Common.{◌≡◌, ◌++◌, drop, map}
use Rattle.lus_tree.specs.View.{param_view}
use Rattle.lus_order.specs.Streams.{params_view}
use Rattle.lus_order.proofs.streams.push_params.Given as goal

abbrev pub invariant-loop-param : goal.invariant-loop-param
invariant-loop-param l = params_view l.params.items ++ map param_view (drop l.param-index l.more)
    ≡ params_view l.initial.params.items ++ map param_view l.more
