use Rattle.proof_checker.proofs.Marking.{covered_more}
use Rattle.proof_checker.proofs.set.unmark_all.Goals as goal

pub loop-literal-preserved : goal.loop-literal-preserved
loop-literal-preserved c = covered_more _ _ _ _ _ c.loop-literal.literal-index _ c.loop-literal-test.true c.loop-literal.invariant
    c.mark_both.ensures.flags c.mark_both.ensures.atoms
