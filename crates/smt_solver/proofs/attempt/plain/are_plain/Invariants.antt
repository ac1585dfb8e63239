use Rattle.std.specs.Prelude.{All, take}
use Rattle.proof_steps.specs.View.{atom_view}
use Rattle.cnf_maker.specs.Plain.{IsPlainAtom}
use Rattle.smt_solver.proofs.attempt.plain.are_plain.Given as goal

abbrev pub invariant-loop-atom : goal.invariant-loop-atom
invariant-loop-atom l = All (λ a. IsPlainAtom l.shapes (atom_view a)) (take l.atom-index l.atoms)
