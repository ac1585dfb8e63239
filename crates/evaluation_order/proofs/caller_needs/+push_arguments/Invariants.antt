use Rattle.std.proofs.Common.{length}
use Rattle.evaluation_order.proofs.caller_needs.+push_arguments.Given as goal

abbrev pub decreases-push_arguments : goal.decreases-push_arguments
decreases-push_arguments l = length l.inputs.now
