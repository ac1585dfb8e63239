use Rattle.std.specs.Int.{w128}
use Rattle.std.specs.Prelude.{◌≡◌, ◌∷◌, ◌++◌, [], ℕ, length, map, take, None, unsigned_abs}
use Rattle.std.proofs.Common.{rules, ap, ◌∙◌, sym, get_or, arith}
use Rattle.std.proofs.lemmas.Option.{slice_get-get_or}
use Rattle.std.proofs.lemmas.List.{map-append, take_more}
use mir.Val.{SFits}
use lib.IntN.{ℤ, pos}
use lib.Signed.{lt_z}
use Rattle.std.proofs.lemmas.Int.{to_z-of_z}
use Rattle.proof_steps.specs.View.{row_view}
use Rattle.int_simplex.specs.Choosing.{limit_at, on_side, differs}
use Rattle.int_simplex.specs.Refuting.{part_of, literal_in, stop_side}
use Rattle.int_simplex.proofs.Sparse.{sparse_differ, sparse_within}
use Rattle.int_simplex.proofs.Choices.{limit-is}
use Rattle.int_simplex.proofs.Nexts.{row_there}
use Rattle.int_simplex.proofs.Certificates.{size_past}
use Rattle.int_simplex.proofs.refuting.farkas_of.Goals as goal

pub entry_in-falls-requires : goal.entry_in-falls-requires
entry_in-falls-requires c = sparse_differ 0 (length c.args.lowers.now) c.args.row.now c.requires.sparse

pub bounds-lowers-c : goal.bounds-lowers-c
bounds-lowers-c c = sparse_within 0 (length c.args.lowers.now) c.args.row.now c.requires.sparse c.loop-t.t-index (0, pos 0) c.loop-t-test.true

pub bounds-uppers-c : goal.bounds-uppers-c
bounds-uppers-c c =
    let b = sparse_within 0 (length c.args.lowers.now) c.args.row.now c.requires.sparse c.loop-t.t-index (0, pos 0) c.loop-t-test.true in
    let u = c.requires.uppers in omega arith

pub returns-in-Err-clause-past : goal.returns-in-Err-clause-past
returns-in-Err-clause-past c =
    let fa : SFits w128 (get_or c.args.row.now c.loop-t.t-index (0, pos 0)).1 = search rules in
    let g = row_there c.args.given.now 0 c.index-given-0.result c.requires.given c.index-given-0.is in
    size_past c.args.row.now (map row_view c.args.given.now) c.loop-t.t-index
    (get_or c.args.row.now c.loop-t.t-index (0, pos 0)) c.index-given-0.result.items c.deref.result.now
    c.in-Err.past c.past_over.result (slice_get-get_or c.args.row.now c.loop-t.t-index (0, pos 0) c.loop-t-test.true) g
    c.deref.ensures.value c.past_over.ensures
    (simp to_z-of_z at c.in-Err.ensures.past)

pub loop-t-preserved : goal.loop-t-preserved
loop-t-preserved c =
    let b = sparse_within 0 (length c.args.lowers.now) c.args.row.now c.requires.sparse c.loop-t.t-index (0, pos 0) c.loop-t-test.true in
    let u = c.requires.uppers in
    let fm : SFits w128 c.in-Ok.multiplier = search rules in
    let fe : SFits w128 c.entry_in-falls.result = search rules in
    let fa : SFits w128 (get_or c.args.row.now c.loop-t.t-index (0, pos 0)).1 = search rules in
    let m : c.in-Ok.multiplier ≡ pos (unsigned_abs (get_or c.args.row.now c.loop-t.t-index (0, pos 0)).1) = simp to_z-of_z at c.in-Ok.ensures.size in
    let p = simp to_z-of_z at c.in_ok-push.ensures.items in
    let d1 = simp to_z-of_z at c.differ.ensures in
    let d2 = c.differ-in-loop-t.ensures in
    let l = c.literal_of.ensures in
    let k = c.chosen-limit.ensures in
    p
    ∙ ap (λ (z : ℤ). c.loop-t.parts.items ++ (z, c.literal_of.result) ∷ []) m
    ∙ ap (λ (n : ℕ). c.loop-t.parts.items ++ (pos (unsigned_abs (get_or c.args.row.now c.loop-t.t-index (0, pos 0)).1), n) ∷ []) (l ∙ ap literal_in k
    ∙ ap (λ o. literal_in (on_side o
    (get_or c.args.lowers.now (get_or c.args.row.now c.loop-t.t-index (0, pos 0)).0 None)
    (get_or c.args.uppers.now (get_or c.args.row.now c.loop-t.t-index (0, pos 0)).0 None))) (d2 ∙ ap (λ w. differs w c.args.side) d1)
    ∙ ap (λ o. literal_in (on_side (differs (differs (lt_z (pos 0) (get_or c.args.row.now c.loop-t.t-index (0, pos 0)).1) (lt_z (pos 0) o)) c.args.side)
    (get_or c.args.lowers.now (get_or c.args.row.now c.loop-t.t-index (0, pos 0)).0 None)
    (get_or c.args.uppers.now (get_or c.args.row.now c.loop-t.t-index (0, pos 0)).0 None))) c.entry_in-falls.ensures
    ∙ ap (λ o. literal_in (on_side (stop_side c.args.row.now c.args.x c.args.side (get_or c.args.row.now c.loop-t.t-index (0, pos 0)).1) o
    (get_or c.args.uppers.now (get_or c.args.row.now c.loop-t.t-index (0, pos 0)).0 None)))
    (limit-is c.args.lowers.now (get_or c.args.row.now c.loop-t.t-index (0, pos 0)).0 None b)
    ∙ ap (λ o. literal_in (on_side (stop_side c.args.row.now c.args.x c.args.side (get_or c.args.row.now c.loop-t.t-index (0, pos 0)).1)
    (limit_at c.args.lowers.now (get_or c.args.row.now c.loop-t.t-index (0, pos 0)).0) o))
    (limit-is c.args.uppers.now (get_or c.args.row.now c.loop-t.t-index (0, pos 0)).0 None (omega arith)))
    ∙ ap (λ xs. xs ++ part_of c.args.row.now c.args.x c.args.side c.args.lowers.now c.args.uppers.now
    (get_or c.args.row.now c.loop-t.t-index (0, pos 0)) ∷ []) c.loop-t.invariant
    ∙ sym (map-append (part_of c.args.row.now c.args.x c.args.side c.args.lowers.now c.args.uppers.now)
    (take c.loop-t.t-index c.args.row.now) (get_or c.args.row.now c.loop-t.t-index (0, pos 0) ∷ []))
    ∙ ap (map (part_of c.args.row.now c.args.x c.args.side c.args.lowers.now c.args.uppers.now))
    (sym (take_more c.args.row.now c.loop-t.t-index (0, pos 0) c.loop-t-test.true))
