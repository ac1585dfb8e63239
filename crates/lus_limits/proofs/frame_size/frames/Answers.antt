use Rattle.lus_limits.specs.Measured.{size_view}
use Rattle.lus_limits.proofs.Frames.{no_frames}
use Rattle.lus_limits.proofs.frame_size.frames.Goals as goal

pub returns-else-i-links : goal.returns-else-i-links
returns-else-i-links c =
    no_frames c.args.calls.now c.args.links.now c.loop-i.i (size_view c.loop-i.size) _ c.if-i-links.false c.loop-i.invariant.0 c.loop-i.invariant.1
