use Rattle.std.proofs.Common.{arith}
use Rattle.lus_scopes.specs.Least.{least_view}
use Rattle.lus_types.proofs.Circled.{circle_next, circles_end}
use Rattle.lus_types.proofs.walk.each_circle.Goals as goal

pub loop-number-preserved : goal.loop-number-preserved
loop-number-preserved c = λ p g.
    circle_next p c.args.graph.now c.loop-number.number (least_view c.args.least.now)
    (least_view c.loop-number.least) (least_view c.recursion.new.least) g (omega arith) (c.loop-number.invariant p g)
    c.in_ok-recursion.ensures

pub returns : goal.returns
returns c = λ p g.
    circles_end p c.args.graph.now c.loop-number.number (least_view c.args.least.now)
    (least_view c.loop-number.least) g (omega arith) (c.loop-number.invariant p g)
