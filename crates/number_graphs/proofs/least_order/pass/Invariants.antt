use Rattle.std.proofs.Common.{◌≡◌, ◌-◌, true, length, take}
use Rattle.number_graphs.specs.Rounds.{are_done}
use Rattle.number_graphs.proofs.least_order.pass.Given as goal

abbrev pub invariant-loop-place : goal.invariant-loop-place
invariant-loop-place l = are_done l.done (take l.place l.row) ≡ true

abbrev pub decreases-loop-place : goal.decreases-loop-place
decreases-loop-place l = length l.row - l.place
