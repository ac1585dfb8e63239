use Rattle.std.specs.Prelude.{refl}
use Rattle.std.proofs.Common.{arith}
use Rattle.sat_core.specs.Reduction.{IsMarkedBut}
use Rattle.sat_core.proofs.Standings.{all_taken, all_next}
use Rattle.sat_core.proofs.reduction.all_marked.Goals as goal

pub loop-literal-preserved : goal.loop-literal-preserved
loop-literal-preserved c = all_next (IsMarkedBut c.args.marked.now c.args.but) c.args.clause.now c.loop-literal.literal-index _
    c.loop-literal-test.true c.loop-literal.invariant (c.if-not-is_marked_but.ensures refl)

pub returns : goal.returns
returns c = λ t. all_taken (IsMarkedBut c.args.marked.now c.args.but) c.args.clause.now c.loop-literal.literal-index (omega arith)
    c.loop-literal.invariant
