use Rattle.std.specs.Prelude.{drop, map}
use Rattle.proof_steps.specs.View.{row_view}
use Rattle.int_simplex.specs.Holding.{lists_of, AreListed}
use Rattle.int_simplex.proofs.Nexts.{AreNextBut}
use Rattle.int_simplex.proofs.pivoting.turn_rows.Given as goal

abbrev pub invariant-loop-i : goal.invariant-loop-i
invariant-loop-i l = record {
  next : AreNextBut l.columns l.at l.entering l.other.items (map row_view l.fn.rows.items) (map row_view l.rows.items) l.touched.items
      (drop l.i l.touched.items);
  listed : AreListed l.columns (map row_view l.rows.items) (lists_of l.lists.items);
}
