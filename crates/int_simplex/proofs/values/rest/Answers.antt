use Rattle.std.specs.Int.{w128}
use Rattle.std.specs.Prelude.{length}
use Rattle.std.proofs.Common.{rules, get_or}
use mir.Val.{SFits, to_z}
use lib.IntN.{pos}
use Rattle.std.proofs.lemmas.Int.{to_z-of_z}
use Rattle.int_simplex.specs.Valued.{place_at}
use Rattle.int_simplex.proofs.Sparse.{sparse_within}
use Rattle.int_simplex.proofs.Rests.{rest_next, rest_all, place-is, rest_past}
use Rattle.int_simplex.proofs.values.rest.Goals as goal

pub bounds-places-column : goal.bounds-places-column
bounds-places-column c = sparse_within 0 (length c.args.places.now) c.args.row.now c.requires c.loop-t.t-index (0, pos 0) c.loop-t-test.true

pub loop-t-preserved : goal.loop-t-preserved
loop-t-preserved c =
    let fa : SFits w128 (get_or c.args.row.now c.loop-t.t-index (0, pos 0)).1 = search rules in
    let b = sparse_within 0 (length c.args.places.now) c.args.row.now c.requires c.loop-t.t-index (0, pos 0) c.loop-t-test.true in
    let fz : SFits w128 (get_or c.args.places.now (get_or c.args.row.now c.loop-t.t-index (0, pos 0)).0 (pos 0)) = search rules in
    let fs : SFits w128 c.in_ok-sum.sum = search rules in
    let e = simp to_z-of_z at c.in_ok-sum.ensures.sum in
    simp to_z-of_z (rest_next c.args.x c.loop-t.t-index (place_at c.args.places.now) c.args.row.now (0, pos 0)
    (to_z w128 c.loop-t.sum-bits) c.in_ok-sum.sum _ c.loop-t-test.true
    c.loop-t.invariant (place-is c.args.places.now _ (pos 0) b) e)

pub returns-in_err-sum-clause-past : goal.returns-in_err-sum-clause-past
returns-in_err-sum-clause-past c =
    let fa : SFits w128 (get_or c.args.row.now c.loop-t.t-index (0, pos 0)).1 = search rules in
    let b = sparse_within 0 (length c.args.places.now) c.args.row.now c.requires c.loop-t.t-index (0, pos 0) c.loop-t-test.true in
    let fz : SFits w128 (get_or c.args.places.now (get_or c.args.row.now c.loop-t.t-index (0, pos 0)).0 (pos 0)) = search rules in
    let e = simp to_z-of_z at c.in_err-sum.ensures.past in
    rest_past c.args.x c.loop-t.t-index c.args.places.now c.args.row.now (0, pos 0) _
    (to_z w128 c.loop-t.sum-bits) c.in_err-sum.field-0.0 c.from_residual.result c.loop-t-test.true
    (place-is c.args.places.now _ (pos 0) b) c.loop-t.invariant e c.from_residual.ensures.1

pub returns-clause-sum : goal.returns-clause-sum
returns-clause-sum c = rest_all c.args.x c.loop-t.t-index (place_at c.args.places.now) c.args.row.now _ c.loop-t-test.false c.loop-t.invariant
