use Rattle.std.specs.Int.{w128}
use Rattle.std.specs.Prelude.{get_or, refl}
use Rattle.std.proofs.Common.{rules}
use Rattle.std.proofs.lemmas.Int.{to_z-of_z}
use mir.Val.{SFits, to_z}
use lib.IntN.{pos}
use Rattle.smt_solver.proofs.Shares.{none-fit, more-fit, past-here}
use Rattle.smt_solver.proofs.numbers.sums.sum_past.Goals as goal

pub loop-i-init : goal.loop-i-init
loop-i-init c = (refl, none-fit)

pub returns-in-Err : goal.returns-in-Err
returns-in-Err c =
    let f : SFits w128 (get_or c.args.products.now c.loop-i.i (pos 0, pos 0)).0 = search rules in
    let g : SFits w128 (get_or c.args.products.now c.loop-i.i (pos 0, pos 0)).1 = search rules in
    past-here c.loop-i.i c.args.products.now (pos 0, pos 0) (to_z w128 c.loop-i.sum-bits) c.in-Err.past c.loop-i-test.true c.loop-i.invariant.0
    (simp to_z-of_z at c.in-Err.ensures.err)

pub loop-i-preserved : goal.loop-i-preserved
loop-i-preserved c =
    let f : SFits w128 (get_or c.args.products.now c.loop-i.i (pos 0, pos 0)).0 = search rules in
    let g : SFits w128 (get_or c.args.products.now c.loop-i.i (pos 0, pos 0)).1 = search rules in
    let h : SFits w128 c.in-Ok.next = search rules in
    simp to_z-of_z (more-fit c.loop-i.i c.args.products.now (pos 0, pos 0) (to_z w128 c.loop-i.sum-bits) c.in-Ok.next c.loop-i-test.true
    c.loop-i.invariant.0 c.loop-i.invariant.1 (simp to_z-of_z at c.in-Ok.ensures.ok))
