use Rattle.int_simplex.specs.Sparse.{IsFrom}
use Rattle.simplex_cases.proofs.rows.row_of.Given as goal

abbrev pub invariant-loop-column : goal.invariant-loop-column
invariant-loop-column l = IsFrom 0 l.column l.row.items
