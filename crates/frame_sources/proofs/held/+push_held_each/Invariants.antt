use Rattle.std.proofs.Common.{length}
use Rattle.frame_sources.proofs.held.+push_held_each.Given as goal

abbrev pub decreases-push_held_each : goal.decreases-push_held_each
decreases-push_held_each l = length l.outputs.now
