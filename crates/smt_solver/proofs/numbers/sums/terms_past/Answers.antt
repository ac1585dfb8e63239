use Rattle.std.specs.Prelude.{ℕ, All}
use Rattle.std.proofs.Common.{subst}
use lib.IntN.{ℤ, pos}
use Rattle.line_laws.specs.PastSteps.{SumFits}
use Rattle.smt_solver.specs.Shares.{products_by}
use Rattle.smt_solver.proofs.Shares.{whole, all-more, fits-there}
use Rattle.smt_solver.proofs.numbers.sums.terms_past.Goals as goal

pub loop-x-preserved : goal.loop-x-preserved
loop-x-preserved c =
    all-more (λ (t : ℕ × ℤ). SumFits (products_by c.args.atoms.now t.0 c.args.shares.now)) c.args.terms.now c.loop-x.x-index
    (0, pos 0) c.loop-x-test.true c.loop-x.invariant (fits-there _ c.in_ok-past.field-0 c.in_default.is c.in_ok-past.ensures)

pub returns : goal.returns
returns c =
    subst (All (λ (t : ℕ × ℤ). SumFits (products_by c.args.atoms.now t.0 c.args.shares.now)))
    (whole c.args.terms.now c.loop-x.x-index c.loop-x-test.false) c.loop-x.invariant
