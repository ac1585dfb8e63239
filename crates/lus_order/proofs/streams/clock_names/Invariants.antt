use Rattle.std.proofs.Common.{◌≡◌, ◌++◌, drop, map}
use Rattle.lus_order.specs.Reads.{clock_seen}
use Rattle.lus_order.specs.Streams.{params_view, stream_clock}
use Rattle.lus_order.proofs.streams.clock_names.Given as goal

abbrev pub invariant-loop-param : goal.invariant-loop-param
invariant-loop-param l = map clock_seen l.clocks.items ++ map stream_clock (params_view (drop l.param-index l.params))
    ≡ map stream_clock (params_view l.params)
