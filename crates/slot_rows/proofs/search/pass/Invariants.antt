use Rattle.std.proofs.Common.{◌≡◌, ◌-◌, true, length, take}
use Rattle.slot_rows.specs.Searching.{are_done}
use Rattle.slot_rows.proofs.search.pass.Given as goal

abbrev pub invariant-loop-place : goal.invariant-loop-place
invariant-loop-place l = are_done l.done (take l.place l.row) ≡ true

abbrev pub decreases-loop-place : goal.decreases-loop-place
decreases-loop-place l = length l.row - l.place
