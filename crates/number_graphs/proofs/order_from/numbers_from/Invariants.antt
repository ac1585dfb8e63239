use Rattle.std.proofs.Common.{◌≡◌, ◌++◌, drop}
use Rattle.number_graphs.specs.Graphs.{from_on}
use Rattle.number_graphs.proofs.order_from.numbers_from.Given as goal

-- what is there, followed by what is to come, is all
abbrev pub invariant-loop-number : goal.invariant-loop-number
invariant-loop-number l = l.rest.items ++ from_on l.start (drop l.number-index l.numbers) ≡ from_on l.start l.numbers
