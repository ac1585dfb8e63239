use Rattle.std.proofs.Common.{◌≡◌, ◌++◌, drop, map}
use Rattle.lus_streams.specs.Owner.{owner_view}
use Rattle.lus_limits.specs.Calls.{call_view}
use Rattle.lus_limits.specs.Needed.{all_known, link_at}
use Rattle.lus_limits.proofs.needs.links.Given as goal

-- what is to come decides whether all is known, and stands behind the links so far
abbrev pub invariant-loop-call : goal.invariant-loop-call
invariant-loop-call l =
    (all_known l.names l.known (map call_view (drop l.call-index l.calls)) ≡ all_known l.names l.known (map call_view l.calls))
    × (l.links.items ++ map (link_at l.names (map owner_view l.parts) l.known) (map call_view (drop l.call-index l.calls))
    ≡ map (link_at l.names (map owner_view l.parts) l.known) (map call_view l.calls))
