use Rattle.std.proofs.Common.{arith}
use Rattle.sat_core.proofs.Placed.{one_open}
use Rattle.sat_core.proofs.placing.beside_open.Goals as goal

pub returns : goal.returns
returns c = one_open c.args.trail.now c.requires.apart c.args.marked.now c.args.free c.requires.marked c.requires.is_free c.requires.others
    _ _ _ _ (omega arith) c.lowest-low.ensures c.below.ensures c.paired-watched.ensures
