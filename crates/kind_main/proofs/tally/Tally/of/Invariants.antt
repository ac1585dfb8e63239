use Rattle.std.proofs.Common.{drop}
use Rattle.kind_main.specs.Verdicts.{counts_of, outcomes_view}
use Rattle.kind_main.proofs.Counting.{Counting}
use Rattle.kind_main.proofs.tally.Tally.of.Given as goal

abbrev pub invariant-loop-outcome : goal.invariant-loop-outcome
invariant-loop-outcome l = Counting (outcomes_view l.outcomes) (outcomes_view (drop l.outcome-index l.outcomes)) (counts_of l.tally)
