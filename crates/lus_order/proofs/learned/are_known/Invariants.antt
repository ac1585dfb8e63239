use Rattle.std.proofs.Common.{◌≡◌, drop, map}
use Rattle.lus_limits.specs.Calls.{call_view}
use Rattle.lus_order.specs.Declarations.{are_known}
use Rattle.lus_order.proofs.learned.are_known.Given as goal

abbrev pub invariant-loop-call : goal.invariant-loop-call
invariant-loop-call l = are_known l.names (map call_view (drop l.call-index l.calls)) ≡ are_known l.names (map call_view l.calls)
