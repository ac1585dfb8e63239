use Rattle.std.specs.Prelude.{drop}
use Rattle.sat_core.specs.Set.{IsCovered}
use Rattle.sat_core.proofs.set.unmark_all.Given as goal

abbrev pub invariant-loop-literal : goal.invariant-loop-literal
invariant-loop-literal l = IsCovered l.marks.items (drop l.literal-index l.literals)
