use Rattle.std.proofs.Common.{map}
use Rattle.lus_types.specs.Marks.{Spreads, free_count, row_view}
use Rattle.lus_types.proofs.marks.spread.Given as goal

abbrev pub invariant-loop-marks : goal.invariant-loop-marks
invariant-loop-marks l = Spreads (map row_view l.rows) l.initial.marks l.marks

abbrev pub decreases-loop-marks : goal.decreases-loop-marks
decreases-loop-marks l = free_count l.marks
