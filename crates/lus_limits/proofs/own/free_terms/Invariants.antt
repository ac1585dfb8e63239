use Rattle.std.proofs.Common.{◌≡◌, drop, map}
use Rattle.lus_tree.specs.View.{param_view}
use Rattle.lus_limits.specs.Measured.{size_view}
use Rattle.lus_streams.specs.Names.{names_view}
use Rattle.lus_limits.specs.OwnTerms.{free_terms}
use Rattle.lus_limits.specs.Peaks.{greater}
use Rattle.lus_limits.specs.SizeCuts.{cut_term}
use Rattle.lus_limits.proofs.own.free_terms.Given as goal

-- the greatest so far, with what is to come, is the greatest of all, cut
abbrev pub invariant-loop-stream : goal.invariant-loop-stream
invariant-loop-stream l = (cut_term (size_view l.size) ≡ size_view l.size)
    × (cut_term (greater (size_view l.size) (free_terms l.known (names_view l.names) (map param_view (drop l.stream-index l.streams))))
    ≡ cut_term (free_terms l.known (names_view l.names) (map param_view l.streams)))
