use Rattle.sat_core.proofs.Marking.{covered_more}
use Rattle.sat_core.proofs.set.unmark_all.Goals as goal

pub loop-literal-preserved : goal.loop-literal-preserved
loop-literal-preserved c = covered_more _ _ _ c.loop-literal.literal-index _ c.loop-literal-test.true c.loop-literal.invariant c.mark.ensures
