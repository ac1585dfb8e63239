use Rattle.std.specs.Prelude.{map}
use Rattle.proof_steps.specs.View.{row_view}
use Rattle.int_simplex.specs.Holding.{lists_of}
use Rattle.int_simplex.proofs.Holding.{AreListedTo}
use Rattle.int_simplex.proofs.holders.listed.Given as goal

abbrev pub invariant-loop-k : goal.invariant-loop-k
invariant-loop-k l = AreListedTo l.columns (map row_view l.rows) (lists_of l.lists.items) l.k
