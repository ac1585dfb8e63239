use Rattle.std.proofs.Common.{◌≡◌, ◌+◌, drop}
use Rattle.lus_limits.specs.Parts.{sides_view}
use Rattle.lus_limits.specs.Summaries.{cut, states_in}
use Rattle.lus_limits.proofs.summing.states_in.Given as goal

-- what is counted, with what is to come, is all, up to the cut
abbrev pub invariant-loop-side : goal.invariant-loop-side
invariant-loop-side l = (cut l.count ≡ l.count) × (cut (l.count + states_in (sides_view (drop l.side-index l.sides))) ≡ cut (states_in (sides_view l.sides)))
