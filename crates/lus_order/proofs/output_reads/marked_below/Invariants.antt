use Rattle.std.proofs.Common.{◌≡◌}
use Rattle.lus_order.specs.MarkedBelow.{marked_below}
use Rattle.lus_order.proofs.output_reads.marked_below.Given as goal

abbrev pub invariant-loop-number : goal.invariant-loop-number
invariant-loop-number l = l.numbers.items ≡ marked_below l.marks l.number
