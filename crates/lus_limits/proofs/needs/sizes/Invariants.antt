use Rattle.std.proofs.Common.{◌≡◌, ◌++◌, drop, map, true}
use Rattle.lus_limits.specs.Calls.{call_view}
use Rattle.lus_limits.specs.Contracted.{summaries_seen}
use Rattle.lus_limits.specs.Needed.{all_known, sizes_at}
use Rattle.lus_limits.proofs.needs.sizes.Given as goal

-- what is to come is known, and stands behind the sizes so far
abbrev pub invariant-loop-call : goal.invariant-loop-call
invariant-loop-call l =
    (all_known l.names l.known (map call_view (drop l.call-index l.calls)) ≡ true)
    × (summaries_seen l.sizes.items ++ map (sizes_at l.names l.known) (map call_view (drop l.call-index l.calls))
    ≡ map (sizes_at l.names l.known) (map call_view l.calls))
