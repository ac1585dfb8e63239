use Rattle.std.proofs.Common.{◌≡◌, ◌++◌, drop}
use Rattle.lus_order.proofs.rows.push_numbers.Given as goal

abbrev pub invariant-loop-number : goal.invariant-loop-number
invariant-loop-number l = l.row.items ++ drop l.number-index l.numbers ≡ l.initial.row.items ++ l.numbers
