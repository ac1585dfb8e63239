use Rattle.std.proofs.Common.{◌≡◌, ◌+◌, drop}
use Rattle.lus_limits.specs.Summaries.{cut, links_width}
use Rattle.lus_limits.proofs.summing.links_width.Given as goal

-- what is counted, with what is to come, is all, up to the cut
abbrev pub invariant-loop-link : goal.invariant-loop-link
invariant-loop-link l = (cut l.width ≡ l.width) × (cut (l.width + links_width (drop l.link-index l.links)) ≡ cut (links_width l.links))
