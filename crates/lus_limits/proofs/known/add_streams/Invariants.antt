use Rattle.std.proofs.Common.{map, take}
use Rattle.lus_tree.specs.View.{param_view}
use Rattle.lus_limits.specs.Known.{HasThese}
use Rattle.lus_limits.proofs.known.add_streams.Given as goal

-- the names that there were, and those so far
abbrev pub invariant-loop-stream : goal.invariant-loop-stream
invariant-loop-stream l = HasThese l.initial.names l.names (map (λ v. v.name.text) (map param_view (take l.stream-index l.streams)))
