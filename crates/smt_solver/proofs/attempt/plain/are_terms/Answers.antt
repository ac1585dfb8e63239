use Rattle.std.specs.Prelude.{refl}
use Rattle.std.proofs.Common.{arith}
use Rattle.cnf_maker.specs.Plain.{IsTermOf}
use Rattle.smt_solver.proofs.Elements.{all_taken, all_next}
use Rattle.smt_solver.proofs.attempt.plain.are_terms.Goals as goal

pub loop-term-preserved : goal.loop-term-preserved
loop-term-preserved c = all_next (IsTermOf c.args.shapes.now) c.args.terms.now c.loop-term.term-index _ c.loop-term-test.true
    c.loop-term.invariant (c.if-not-is_term.ensures refl)

pub returns : goal.returns
returns c = λ t. all_taken (IsTermOf c.args.shapes.now) c.args.terms.now c.loop-term.term-index (omega arith)
    c.loop-term.invariant
