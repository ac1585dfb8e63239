use Rattle.sat_core.proofs.Marking.{widened-more}
use Rattle.sat_core.proofs.set.widen.Goals as goal

pub loop-marks-preserved : goal.loop-marks-preserved
loop-marks-preserved c = widened-more _ _ _ c.loop-marks.invariant c.in_ok-push.ensures.items
