use Rattle.std.specs.Prelude.{◌≡◌, ◌++◌, drop}
use Rattle.smt_solver.specs.Cutting.{numbered_in}
use Rattle.smt_solver.proofs.attempt.cutting.numbered.Given as goal

abbrev pub invariant-loop-multiplier : goal.invariant-loop-multiplier
invariant-loop-multiplier l =
    l.numbered.items ++ numbered_in (drop l.multiplier-index l.parts) ≡ numbered_in l.fn.parts
