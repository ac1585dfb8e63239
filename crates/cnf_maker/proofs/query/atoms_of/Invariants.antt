use Rattle.std.specs.Prelude.{◌≡◌, map, take}
use Rattle.proof_steps.specs.View.{atom_view}
use Rattle.cnf_maker.specs.View.{key_view}
use Rattle.cnf_maker.proofs.query.atoms_of.Given as goal

abbrev pub invariant-loop-key : goal.invariant-loop-key
invariant-loop-key l = map atom_view l.atoms.items ≡ map key_view (take l.key-index l.keys)
