use Rattle.std.proofs.Common.{◌≡◌, ◌++◌, drop}
use Rattle.lus_tree.specs.View.{exprs_view, joined}
use Rattle.evaluation_parts.specs.CallNumbers.{call_numbers_among}
use Rattle.evaluation_parts.proofs.call_numbers.+numbers.Given as goal

abbrev pub invariant-push_numbers_among-loop-value : goal.invariant-push_numbers_among-loop-value
invariant-push_numbers_among-loop-value l = l.numbers.items ++ call_numbers_among (joined (exprs_view (drop l.value-index l.values)))
    ≡ l.initial.numbers.items ++ call_numbers_among (joined (exprs_view l.values))
