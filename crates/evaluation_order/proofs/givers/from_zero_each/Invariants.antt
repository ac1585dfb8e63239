use Rattle.std.proofs.Common.{◌≡◌, ◌++◌, map, pred, drop}
use Rattle.evaluation_order.proofs.givers.from_zero_each.Given as goal

abbrev pub invariant-loop-number : goal.invariant-loop-number
invariant-loop-number l = l.places.items ++ map pred (drop l.number-index l.way) ≡ map pred l.way
