use Rattle.std.specs.Int.{w128}
use Rattle.std.specs.Prelude.{false, None}
use Rattle.std.proofs.Common.{rules, get_or}
use mir.Val.{SFits, to_z}
use lib.IntN.{pos}
use Rattle.std.proofs.lemmas.Int.{to_z-of_z}
use Rattle.proof_steps.specs.View.{row_view}
use Rattle.std.specs.Prelude.{map}
use Rattle.int_cuts.proofs.Steps.{sum_next, sum_past, sum_result}
use Rattle.int_cuts.proofs.sums.sum_of.Goals as goal

pub returns-in_err-sum-clause-past : goal.returns-in_err-sum-clause-past
returns-in_err-sum-clause-past c =
    let ff : SFits w128 c.factor-f.result = search rules in
    let fm : SFits w128 (get_or c.args.parts.now c.loop-p.p-index record
    { column = 0; upper = false; limit = pos 0; literal = 0; multiplier = pos 0; row = None }).multiplier = search rules in
    let e = simp to_z-of_z at c.in_err-sum.ensures.past in
    sum_result (map row_view c.args.given.now) c.args.variable c.args.parts.now c.in_err-sum.field-0.0 c.from_residual.result
    (sum_past (map row_view c.args.given.now) c.args.variable c.args.parts.now c.loop-p.p-index record
    { column = 0; upper = false; limit = pos 0; literal = 0; multiplier = pos 0; row = None }
    (to_z w128 c.loop-p.sum-bits) c.factor-f.result c.in_err-sum.field-0.0 c.loop-p-test.true c.loop-p.invariant c.factor-f.ensures e) c.from_residual.ensures.1

pub loop-p-preserved : goal.loop-p-preserved
loop-p-preserved c =
    let ff : SFits w128 c.factor-f.result = search rules in
    let fm : SFits w128 (get_or c.args.parts.now c.loop-p.p-index record
    { column = 0; upper = false; limit = pos 0; literal = 0; multiplier = pos 0; row = None }).multiplier = search rules in
    let fs : SFits w128 c.in_ok-sum.sum = search rules in
    let e = simp to_z-of_z at c.in_ok-sum.ensures.sum in
    simp to_z-of_z (sum_next (map row_view c.args.given.now) c.args.variable c.args.parts.now c.loop-p.p-index record
    { column = 0; upper = false; limit = pos 0; literal = 0; multiplier = pos 0; row = None }
    (to_z w128 c.loop-p.sum-bits) c.factor-f.result c.in_ok-sum.sum c.loop-p-test.true c.loop-p.invariant c.factor-f.ensures e)
