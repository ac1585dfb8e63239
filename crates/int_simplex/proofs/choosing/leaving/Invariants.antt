use Rattle.int_simplex.specs.Choosing.{IsLeavingOf}
use Rattle.int_simplex.proofs.choosing.leaving.Given as goal

abbrev pub invariant-loop-at : goal.invariant-loop-at
invariant-loop-at l = IsLeavingOf l.basis l.values l.lowers l.uppers l.at l.best
