use Rattle.std.proofs.Common.{length}
use Rattle.sys_conditions.proofs.called.+push_held_at_first.Given as goal

abbrev pub decreases-push_held_at_first : goal.decreases-push_held_at_first
decreases-push_held_at_first l = length l.outputs.now
