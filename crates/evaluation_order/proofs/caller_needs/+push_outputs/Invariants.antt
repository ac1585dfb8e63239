use Rattle.std.proofs.Common.{length}
use Rattle.evaluation_order.proofs.caller_needs.+push_outputs.Given as goal

abbrev pub decreases-push_outputs : goal.decreases-push_outputs
decreases-push_outputs l = length l.outputs.now
