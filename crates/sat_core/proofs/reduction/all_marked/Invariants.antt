use Rattle.std.specs.Prelude.{All, take}
use Rattle.sat_core.specs.Reduction.{IsMarkedBut}
use Rattle.sat_core.proofs.reduction.all_marked.Given as goal

abbrev pub invariant-loop-literal : goal.invariant-loop-literal
invariant-loop-literal l = All (IsMarkedBut l.marked l.but) (take l.literal-index l.clause)
