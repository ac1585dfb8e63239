use Rattle.std.proofs.Common.{◌≡◌, ◌+◌, drop}
use Rattle.lus_tree.specs.View.{exprs_view, joined}
use Rattle.lus_limits.specs.Summaries.{cut, states_among}
use Rattle.lus_limits.proofs.summing.+states.Given as goal

-- what is counted, with what is to come, is all, up to the cut
abbrev pub invariant-states_among-loop-value : goal.invariant-states_among-loop-value
invariant-states_among-loop-value l = (cut l.count ≡ l.count) ×
    (cut (l.count + states_among (joined (exprs_view (drop l.value-index l.values)))) ≡ cut (states_among (joined (exprs_view l.values))))
