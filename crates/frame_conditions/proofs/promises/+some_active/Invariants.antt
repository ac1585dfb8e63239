use Rattle.std.proofs.Common.{length}
use Rattle.frame_conditions.proofs.promises.+some_active.Given as goal

abbrev pub decreases-some_active : goal.decreases-some_active
decreases-some_active l = length l.modes.now
