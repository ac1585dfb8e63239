use Rattle.int_simplex.proofs.Fresh.{AreFound}
use Rattle.int_simplex.proofs.stale.marked.Given as goal

abbrev pub invariant-loop-k : goal.invariant-loop-k
invariant-loop-k l = AreFound l.marks l.places.items l.k
