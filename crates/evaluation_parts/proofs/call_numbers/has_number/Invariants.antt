use Rattle.std.proofs.Common.{◌≡◌, drop}
use Rattle.evaluation_parts.specs.CallNumbers.{has_number}
use Rattle.evaluation_parts.proofs.call_numbers.has_number.Given as goal

abbrev pub invariant-loop-listed : goal.invariant-loop-listed
invariant-loop-listed l = has_number (drop l.listed-index l.numbers) l.number ≡ has_number l.numbers l.number
