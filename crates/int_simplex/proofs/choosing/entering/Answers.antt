use Rattle.std.specs.Int.{w128}
use Rattle.std.specs.Prelude.{length, None}
use Rattle.std.proofs.Common.{rules, ap, get_or, arith}
use mir.Val.{SFits}
use lib.IntN.{pos}
use lib.Signed.{lt_z}
use Rattle.std.proofs.lemmas.Int.{to_z-of_z}
use Rattle.int_simplex.proofs.Sparse.{sparse_differ, sparse_within}
use Rattle.int_simplex.proofs.Choices.{enters_next, enters_first, enters_none, enters_if, enters_only, limit-is}
use Rattle.int_simplex.proofs.Rests.{place-is}
use Rattle.int_simplex.proofs.Floors.{both_ways}
use Rattle.int_simplex.proofs.choosing.entering.Goals as goal

pub entry_in-falls-requires : goal.entry_in-falls-requires
entry_in-falls-requires c = sparse_differ 0 (length c.args.places.now) c.args.row.now c.requires.sparse

pub bounds-places-c : goal.bounds-places-c
bounds-places-c c = sparse_within 0 (length c.args.places.now) c.args.row.now c.requires.sparse c.loop-t.t-index (0, pos 0) c.loop-t-test.true

pub bounds-lowers-c : goal.bounds-lowers-c
bounds-lowers-c c =
    let b = sparse_within 0 (length c.args.places.now) c.args.row.now c.requires.sparse c.loop-t.t-index (0, pos 0) c.loop-t-test.true in
    let l = c.requires.lowers in omega arith

pub bounds-uppers-c : goal.bounds-uppers-c
bounds-uppers-c c =
    let b = sparse_within 0 (length c.args.places.now) c.args.row.now c.requires.sparse c.loop-t.t-index (0, pos 0) c.loop-t-test.true in
    let l = c.requires.uppers in omega arith

pub returns-then-can_enter : goal.returns-then-can_enter
returns-then-can_enter c =
    let b = sparse_within 0 (length c.args.places.now) c.args.row.now c.requires.sparse c.loop-t.t-index (0, pos 0) c.loop-t-test.true in
    let fz : SFits w128 (get_or c.args.places.now (get_or c.args.row.now c.loop-t.t-index (0, pos 0)).0 (pos 0)) = search rules in
    let l = c.requires.lowers in let u = c.requires.uppers in
    let fe : SFits w128 c.entry_in-falls.result = search rules in
    let fa : SFits w128 (get_or c.args.row.now c.loop-t.t-index (0, pos 0)).1 = search rules in (
      enters_if (length c.args.places.now) c.loop-t.t-index c.args.row.now c.args.x c.args.side _ c.args.places.now c.args.lowers.now
          c.args.uppers.now (0, pos 0) _ _ _ c.requires.sparse
          c.loop-t-test.true (ap (lt_z (pos 0)) c.entry_in-falls.ensures)
          (place-is c.args.places.now (get_or c.args.row.now c.loop-t.t-index (0, pos 0)).0 (pos 0) b)
          (limit-is c.args.lowers.now (get_or c.args.row.now c.loop-t.t-index (0, pos 0)).0 None (omega arith))
          (limit-is c.args.uppers.now (get_or c.args.row.now c.loop-t.t-index (0, pos 0)).0 None (omega arith))
          (simp to_z-of_z at (c.can_enter.ensures.0 c.if-can_enter.true)),
      enters_first (length c.args.places.now) c.loop-t.t-index c.args.row.now c.args.x c.args.side c.args.places.now c.args.lowers.now
          c.args.uppers.now (0, pos 0) c.requires.sparse
          c.loop-t-test.true c.loop-t.invariant,
    )

pub loop-t-preserved : goal.loop-t-preserved
loop-t-preserved c =
    let b = sparse_within 0 (length c.args.places.now) c.args.row.now c.requires.sparse c.loop-t.t-index (0, pos 0) c.loop-t-test.true in
    let fz : SFits w128 (get_or c.args.places.now (get_or c.args.row.now c.loop-t.t-index (0, pos 0)).0 (pos 0)) = search rules in
    let l = c.requires.lowers in let u = c.requires.uppers in
    let fe : SFits w128 c.entry_in-falls.result = search rules in
    let fa : SFits w128 (get_or c.args.row.now c.loop-t.t-index (0, pos 0)).1 = search rules in
    enters_next (length c.args.places.now) c.loop-t.t-index c.args.row.now c.args.x c.args.side c.args.places.now c.args.lowers.now
    c.args.uppers.now (0, pos 0) c.loop-t-test.true
    (λ e. both_ways c.can_enter.result (c.can_enter.ensures.1 (simp to_z-of_z
    (enters_only (length c.args.places.now) c.loop-t.t-index c.args.row.now c.args.x c.args.side _ c.args.places.now c.args.lowers.now
    c.args.uppers.now (0, pos 0) _ _ _ c.requires.sparse c.loop-t-test.true (ap (lt_z (pos 0)) c.entry_in-falls.ensures)
    (place-is c.args.places.now (get_or c.args.row.now c.loop-t.t-index (0, pos 0)).0 (pos 0) b)
    (limit-is c.args.lowers.now (get_or c.args.row.now c.loop-t.t-index (0, pos 0)).0 None (omega arith))
    (limit-is c.args.uppers.now (get_or c.args.row.now c.loop-t.t-index (0, pos 0)).0 None (omega arith)) e))) c.if-can_enter.false)
    c.loop-t.invariant

pub returns : goal.returns
returns c = enters_none (length c.args.places.now) c.loop-t.t-index c.args.row.now c.args.x c.args.side c.args.places.now c.args.lowers.now
    c.args.uppers.now c.requires.sparse
    c.loop-t-test.false c.loop-t.invariant
