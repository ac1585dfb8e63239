use Rattle.std.proofs.Common.{◌≡◌, ◌++◌, flat_map, drop}
use Rattle.lus_tree.specs.View.{exprs_view}
use Rattle.evaluation_parts.specs.CallNumbers.{call_numbers}
use Rattle.evaluation_parts.proofs.call_numbers.push_numbers_each.Given as goal

abbrev pub invariant-loop-value : goal.invariant-loop-value
invariant-loop-value l = l.numbers.items ++ flat_map call_numbers (exprs_view (drop l.value-index l.values))
    ≡ l.initial.numbers.items ++ flat_map call_numbers (exprs_view l.values)
