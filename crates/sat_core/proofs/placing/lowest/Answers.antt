use Rattle.std.proofs.Common.{arith}
use Rattle.sat_core.proofs.Placed.{low_here, low_none, low_less}
use Rattle.sat_core.proofs.placing.lowest.Goals as goal

pub returns-then-any_marked : goal.returns-then-any_marked
returns-then-any_marked c = low_here c.args.trail.now c.args.marked.now c.args.from c.loop-i.i c.loop-i.invariant.0
    (let h = c.loop-i-test.true in omega arith) (c.any_marked.ensures.some c.if-any_marked.true) c.loop-i.invariant.1

pub loop-i-preserved : goal.loop-i-preserved
loop-i-preserved c = let h = c.loop-i-test.true in let b = c.loop-i.invariant.0 in (
  omega arith,
  low_less c.args.trail.now c.args.marked.now c.args.from c.loop-i.i (c.any_marked.ensures.none c.if-any_marked.false) c.loop-i.invariant.1,
)

pub returns : goal.returns
returns c = low_none c.args.trail.now c.args.marked.now c.args.from c.loop-i.i (let h = c.loop-i-test.false in omega arith) c.loop-i.invariant.1
