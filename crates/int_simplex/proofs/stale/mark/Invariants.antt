use Rattle.std.specs.Prelude.{take}
use Rattle.int_simplex.specs.Marks.{AreMarked}
use Rattle.int_simplex.proofs.stale.mark.Given as goal

abbrev pub invariant-loop-i : goal.invariant-loop-i
invariant-loop-i l = AreMarked (take l.i l.list) l.fn.marks.items l.marks.items
