use Rattle.std.proofs.Common.{map, take}
use Rattle.lus_tree.specs.View.{param_view}
use Rattle.lus_streams.specs.Streams.{Adds}
use Rattle.lus_streams.proofs.streams.add_all.Given as goal

-- behind those that were there stand those that were gone through
abbrev pub invariant-loop-stream : goal.invariant-loop-stream
invariant-loop-stream l = Adds l.fn.streams l.streams (map param_view (take l.stream-index l.all))
