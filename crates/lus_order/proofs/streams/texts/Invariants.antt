use Rattle.std.proofs.Common.{◌≡◌, ◌++◌, drop, map}
use Rattle.lus_order.specs.Streams.{names_of, params_view}
use Rattle.lus_order.proofs.streams.texts.Given as goal

abbrev pub invariant-loop-param : goal.invariant-loop-param
invariant-loop-param l = map (λ x. x.now) l.names.items ++ names_of (params_view (drop l.param-index l.params)) ≡ names_of (params_view l.params)
