use Rattle.std.specs.Prelude.{◌+◌, ◌-◌, length}
use Rattle.sat_core.specs.Set.{IsWidened}
use Rattle.sat_core.proofs.set.widen.Given as goal

abbrev pub invariant-loop-marks : goal.invariant-loop-marks
invariant-loop-marks l = IsWidened l.fn.marks.items l.marks.items

abbrev pub decreases-loop-marks : goal.decreases-loop-marks
decreases-loop-marks l = l.place + 1 - length l.marks.items
