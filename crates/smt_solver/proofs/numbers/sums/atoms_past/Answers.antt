use Rattle.std.specs.Prelude.{ℕ, All}
use Rattle.std.proofs.Common.{subst}
use lib.IntN.{ℤ}
use Rattle.proof_steps.specs.Meaning.{at}
use Rattle.line_laws.specs.PastSteps.{SumFits}
use Rattle.smt_solver.specs.declared.numbers.sums.Share.{Share}
use Rattle.smt_solver.specs.Shares.{products_by, terms_at, no_share}
use Rattle.smt_solver.proofs.Shares.{whole, all-more, all-fit-there}
use Rattle.smt_solver.proofs.numbers.sums.atoms_past.Goals as goal

pub loop-share-preserved : goal.loop-share-preserved
loop-share-preserved c =
    all-more
    (λ (s : Share). All (λ (t : ℕ × ℤ). SumFits (products_by c.args.atoms.now t.0 c.args.shares.now))
    (terms_at (at c.args.atoms.now s.atom)))
    c.args.shares.now c.loop-share.share-index no_share c.loop-share-test.true c.loop-share.invariant
    (all-fit-there c.args.atoms.now c.args.shares.now _ c.in_ok-past.field-0 c.in_default.is c.in_ok-past.ensures)

pub returns : goal.returns
returns c =
    subst
    (All (λ (s : Share). All (λ (t : ℕ × ℤ). SumFits (products_by c.args.atoms.now t.0 c.args.shares.now))
    (terms_at (at c.args.atoms.now s.atom))))
    (whole c.args.shares.now c.loop-share.share-index c.loop-share-test.false) c.loop-share.invariant
