use Rattle.std.proofs.Common.{arith}
use Rattle.sat_core.proofs.Placed.{none_placed, latest_placed}
use Rattle.sat_core.proofs.placing.latest_two.Goals as goal

pub returns-in-None : goal.returns-in-None
returns-in-None c = none_placed c.args.trail.now c.requires.apart c.args.marked.now c.requires.all _ _ (omega arith) c.in-None.ensures c.lowest-last.ensures

pub returns-in-Some : goal.returns-in-Some
returns-in-Some c =
    let e = c.in-Some.ensures in
    latest_placed c.args.trail.now c.requires.apart c.args.marked.now c.requires.all _ _ e.0 e.1 _ (omega arith) c.lowest-last.ensures e.2 e.3 e.4
    _ _ _ _ (let s = e.2 in omega arith) c.lowest-low.ensures c.below-in-Some.ensures c.paired-watched.ensures
