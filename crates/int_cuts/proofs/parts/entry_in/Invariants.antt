use Rattle.int_simplex.proofs.Sorting.{IsScanned}
use Rattle.int_cuts.proofs.parts.entry_in.Given as goal

abbrev pub invariant-loop-t : goal.invariant-loop-t
invariant-loop-t l = IsScanned l.column l.row l.t-index
