use Rattle.std.specs.Prelude.{map}
use Rattle.proof_steps.specs.View.{row_view}
use Rattle.simplex_cases.specs.Made.{AreMade}
use Rattle.simplex_cases.proofs.rows.rows_of.Given as goal

abbrev pub invariant-loop-j : goal.invariant-loop-j
invariant-loop-j l = AreMade l.variables l.j (map row_view l.rows.items)
