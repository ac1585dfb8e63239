use Rattle.std.specs.Prelude.{refl}
use Rattle.std.proofs.Common.{arith, subst}
use Rattle.std.proofs.lemmas.List.Elements.{All-map}
use Rattle.proof_steps.specs.View.{atom_view}
use Rattle.cnf_maker.specs.Plain.{IsPlainAtom}
use Rattle.smt_solver.proofs.Elements.{all_taken, all_next}
use Rattle.smt_solver.proofs.attempt.plain.are_plain.Goals as goal

pub loop-atom-preserved : goal.loop-atom-preserved
loop-atom-preserved c = all_next (λ a. IsPlainAtom c.args.shapes.now (atom_view a)) c.args.atoms.now c.loop-atom.atom-index
    c.atom-item.result c.loop-atom-test.true c.loop-atom.invariant
    (subst (λ a. IsPlainAtom c.args.shapes.now (atom_view a)) c.atom-item.is (c.if-not-is_plain_atom.ensures refl))

pub returns : goal.returns
returns c = λ t. All-map (IsPlainAtom c.args.shapes.now) atom_view c.args.atoms.now
    (all_taken (λ a. IsPlainAtom c.args.shapes.now (atom_view a)) c.args.atoms.now c.loop-atom.atom-index (omega arith)
    c.loop-atom.invariant)
