use Rattle.std.proofs.Common.{length}
use Rattle.evaluation_order.proofs.waits.+is_above.Given as goal

abbrev pub decreases-is_above : goal.decreases-is_above
decreases-is_above l = length l.first.now
