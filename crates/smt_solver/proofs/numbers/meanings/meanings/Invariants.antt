use Rattle.std.specs.Prelude.{map, drop}
use Rattle.proof_steps.specs.View.{atom_view}
use Rattle.smt_solver.proofs.Meant.{AreMeantSo}
use Rattle.smt_solver.proofs.numbers.meanings.meanings.Given as goal

abbrev pub invariant-loop-atom : goal.invariant-loop-atom
invariant-loop-atom l =
    AreMeantSo l.fn.first (map atom_view l.fn.atoms) l.column (map atom_view (drop l.atom-index l.atoms)) l.meanings.items
