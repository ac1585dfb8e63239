use Rattle.std.proofs.Common.{◌≡◌, ◌++◌, map, drop}
use Rattle.lus_tree.specs.View.{param_view}
use Rattle.evaluation_parts.specs.Needed.{needs_view}
use Rattle.evaluation_order.specs.Steps.{stream_needs}
use Rattle.evaluation_order.proofs.own_needs.push_streams.Given as goal

abbrev pub invariant-loop-stream : goal.invariant-loop-stream
invariant-loop-stream l = needs_view l.needs.items ++ stream_needs l.name (map param_view (drop l.stream-index l.streams))
    ≡ needs_view l.initial.needs.items ++ stream_needs l.name (map param_view l.streams)
