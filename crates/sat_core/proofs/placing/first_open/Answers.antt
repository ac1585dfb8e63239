use Rattle.std.specs.Prelude.{◌≡◌, true}
use Rattle.std.proofs.Common.{sym, arith}
use Rattle.proof_checker.specs.Derived.{has}
use Rattle.sat_core.specs.Trail.{falses}
use Rattle.sat_core.proofs.Standings.{all_taken, all_next}
use Rattle.sat_core.proofs.placing.first_open.Goals as goal

pub loop-literal-preserved : goal.loop-literal-preserved
loop-literal-preserved c = all_next (λ m. has (falses c.args.assignment.now) m ≡ true) c.args.clause.now c.loop-literal.literal-index _
    c.loop-literal-test.true c.loop-literal.invariant (sym c.if-not-is_false.ensures)

pub returns : goal.returns
returns c = all_taken (λ m. has (falses c.args.assignment.now) m ≡ true) c.args.clause.now c.loop-literal.literal-index (omega arith)
    c.loop-literal.invariant
