use Rattle.std.specs.Prelude.{◌≡◌, drop}
use Rattle.proof_steps.specs.Rows.{entry}
use Rattle.line_laws.proofs.Differing.{Differ}
use Rattle.smt_solver.proofs.numbers.sums.coefficient.Given as goal

abbrev pub invariant-loop-y : goal.invariant-loop-y
invariant-loop-y l = (entry (drop l.y-index l.terms) l.x ≡ entry l.fn.terms l.x) × Differ (drop l.y-index l.terms)
