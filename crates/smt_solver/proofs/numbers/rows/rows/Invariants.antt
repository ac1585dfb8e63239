use Rattle.std.specs.Prelude.{map, drop}
use Rattle.proof_steps.specs.View.{atom_view, row_view}
use Rattle.smt_solver.proofs.Sums.{AreRowsSo}
use Rattle.smt_solver.proofs.numbers.rows.rows.Given as goal

abbrev pub invariant-loop-atom : goal.invariant-loop-atom
invariant-loop-atom l =
    AreRowsSo l.fn.first (map atom_view l.fn.atoms) l.column (map atom_view (drop l.atom-index l.atoms))
    (map row_view l.rows.items)
