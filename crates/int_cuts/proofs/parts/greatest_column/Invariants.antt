use Rattle.std.specs.Prelude.{◌≡◌, max, drop}
use Rattle.int_simplex.specs.Given.{last_column}
use Rattle.int_cuts.proofs.parts.greatest_column.Given as goal

abbrev pub invariant-loop-t : goal.invariant-loop-t
invariant-loop-t l = max l.last (last_column (drop l.t-index l.row)) ≡ last_column l.fn.row
