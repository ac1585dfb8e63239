use Rattle.std.proofs.Common.{◌≡◌, ℕ, ◌+◌, ◌-◌, length}
use Rattle.lus_clocks.specs.Cells.{cell_at}
use Rattle.lus_clocks.proofs.cells.widen.Given as goal

abbrev pub invariant-loop-cells : goal.invariant-loop-cells
invariant-loop-cells l = (k : ℕ) → cell_at l.cells.items k ≡ cell_at l.fn.cells.items k

abbrev pub decreases-loop-cells : goal.decreases-loop-cells
decreases-loop-cells l = l.number + 1 - length l.cells.items
