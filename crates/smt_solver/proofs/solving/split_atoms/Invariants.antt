use Rattle.std.specs.Prelude.{◌≡◌, ◌++◌, map, drop}
use Rattle.proof_steps.specs.View.{atom_view}
use Rattle.proof_steps.specs.Bounds.{split_atom}
use Rattle.smt_solver.proofs.solving.split_atoms.Given as goal

abbrev pub invariant-loop-pair : goal.invariant-loop-pair
invariant-loop-pair l =
    map atom_view l.atoms.items ++ map split_atom (drop l.pair-index l.pairs) ≡ map split_atom l.fn.pairs
