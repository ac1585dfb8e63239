use Rattle.std.proofs.Common.{map}
use Rattle.lus_types.specs.Marks.{Spreads, row_view}
use Rattle.lus_types.proofs.marks.pass_by.Given as goal

abbrev pub invariant-loop-place : goal.invariant-loop-place
invariant-loop-place l = Spreads (map row_view l.rows) l.initial.marks l.marks
