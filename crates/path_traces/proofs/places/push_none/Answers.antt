use Rattle.std.proofs.Common.{◌≡◌, ◌+◌, suc, arith}
use Rattle.path_traces.proofs.Placed.{none_next}
use Rattle.path_traces.proofs.places.push_none.Goals as goal

pub loop-index-preserved : goal.loop-index-preserved
loop-index-preserved c =
    let q : c.loop-index.index + 1 ≡ suc c.loop-index.index = omega arith in
    none_next c.push.new.self.items c.loop-index.places.items _ c.loop-index.index (c.loop-index.index + 1) c.args.count q
    c.loop-index-test.true c.in_ok-push.ensures.items c.loop-index.invariant
