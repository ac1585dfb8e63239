use Rattle.std.proofs.Common.{length}
use Rattle.evaluation_order.proofs.places.+is_same_way.Given as goal

abbrev pub decreases-is_same_way : goal.decreases-is_same_way
decreases-is_same_way l = length l.first.now
