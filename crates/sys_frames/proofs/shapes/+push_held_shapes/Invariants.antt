use Rattle.std.proofs.Common.{length}
use Rattle.sys_frames.proofs.shapes.+push_held_shapes.Given as goal

abbrev pub decreases-push_held_shapes : goal.decreases-push_held_shapes
decreases-push_held_shapes l = length l.outputs.now
