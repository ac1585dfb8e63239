use Rattle.std.proofs.Common.{◌+◌, ◌*◌, length}
use Rattle.evaluation_order.proofs.next.+next.Given as goal

abbrev pub decreases-push_next : goal.decreases-push_next
decreases-push_next l = 3 * length l.way.now

abbrev pub decreases-push_through : goal.decreases-push_through
decreases-push_through l = 3 * length l.rest.now + 2

abbrev pub decreases-push_below : goal.decreases-push_below
decreases-push_below l = 3 * length l.way.now + 1
