use Rattle.std.specs.Prelude.{length, ⊤}
use Rattle.smt_solver.proofs.attempt.record.add_all.Given as goal

abbrev pub invariant-loop-step : goal.invariant-loop-step
invariant-loop-step l = ⊤

abbrev pub decreases-loop-step : goal.decreases-loop-step
decreases-loop-step l = length l.steps.items
