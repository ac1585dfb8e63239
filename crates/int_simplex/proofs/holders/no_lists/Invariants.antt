use Rattle.int_simplex.specs.Holding.{lists_of, AreEmpty}
use Rattle.int_simplex.proofs.holders.no_lists.Given as goal

abbrev pub invariant-loop-column : goal.invariant-loop-column
invariant-loop-column l = AreEmpty l._column (lists_of l.lists.items)
