use Rattle.std.proofs.Common.{◌≡◌, drop, map}
use Rattle.lus_limits.specs.Calls.{call_view}
use Rattle.lus_limits.specs.Measured.{size_view}
use Rattle.lus_limits.specs.Nodes.{owed_terms}
use Rattle.lus_limits.specs.Peaks.{greater}
use Rattle.lus_limits.specs.SizeCuts.{cut_term}
use Rattle.lus_limits.proofs.node_size.owed_terms.Given as goal

-- the greatest so far, with what is to come, is the greatest of all, cut
abbrev pub invariant-loop-call : goal.invariant-loop-call
invariant-loop-call l = (cut_term (size_view l.size) ≡ size_view l.size)
    × (cut_term (greater (size_view l.size) (owed_terms l.names l.known (map call_view (drop l.call-index l.calls))))
    ≡ cut_term (owed_terms l.names l.known (map call_view l.calls)))
