use Rattle.smt_solver.specs.Kept.{IsKept, IsWithin, left, own_form, solver_view}
use Rattle.smt_solver.proofs.run.run.Given as goal

abbrev pub invariant-loop-end : goal.invariant-loop-end
invariant-loop-end l = IsKept (own_form (solver_view l.fn.solver)) (solver_view l.solver) × IsWithin l.budgets (solver_view l.solver)

abbrev pub decreases-loop-end : goal.decreases-loop-end
decreases-loop-end l = left l.budgets (solver_view l.solver)
