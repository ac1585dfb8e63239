use Rattle.std.proofs.Common.{◌≡◌, ◌+◌, drop}
use Rattle.lus_limits.specs.Summaries.{cut, links_owed}
use Rattle.lus_limits.proofs.summing.links_owed.Given as goal

-- what is counted, with what is to come, is all, up to the cut
abbrev pub invariant-loop-link : goal.invariant-loop-link
invariant-loop-link l = (cut l.owed ≡ l.owed) × (cut (l.owed + links_owed (drop l.link-index l.links)) ≡ cut (links_owed l.links))
