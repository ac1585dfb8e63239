use Rattle.std.specs.Prelude.{false}
use Rattle.std.proofs.Common.{arith}
use Rattle.sat_core.specs.Visiting.{CanStand}
use Rattle.sat_core.proofs.Fresh.{all_got}
use Rattle.sat_core.proofs.visiting.replacement.Goals as goal

pub returns : goal.returns
returns c = all_got (λ m. CanStand c.args.assignment.now m c.args.other false) c.args.clause.now
    (λ k m e. c.loop-i.invariant.1 k m (omega arith) e)
