use Rattle.std.specs.Int.{w128}
use Rattle.std.specs.Prelude.{ℕ, List, length, map, drop, ◌+◌}
use Rattle.std.proofs.Common.{rules, ◌∙◌, sym, subst, arith, get_or, refl}
use Rattle.std.proofs.lemmas.Option.{slice_get-get_or}
use mir.Val.{SFits}
use lib.IntN.{ℤ}
use Rattle.proof_steps.specs.View.{row_view}
use Rattle.int_simplex.specs.Sparse.{IsSparse}
use Rattle.int_simplex.specs.Valued.{place_at, IsRowValue, IsValuePast}
use Rattle.int_simplex.proofs.Places.{same_some, any_default}
use Rattle.int_simplex.proofs.Nexts.{row_there, next_in, none_left}
use Rattle.int_simplex.proofs.Valuing.{values_next, values_done, values_past}
use Rattle.int_simplex.proofs.values.update_values.Goals as goal

pub value_in-requires : goal.value_in-requires
value_in-requires c =
    let n = c.requires.count in
    let h = c.requires.touched c.loop-i.i 0 c.loop-i-test.true in
    let e = row_there c.args.rows.now (get_or c.args.touched.now c.loop-i.i 0) c.index-rows-k.result (omega arith) c.index-rows-k.is in
    subst (λ (r : List (ℕ × ℤ)). IsSparse (length c.args.places.now) r) (sym c.deref.ensures.value)
    (c.requires.sparse (get_or c.args.touched.now c.loop-i.i 0) c.index-rows-k.result.items e)

pub returns-in-Err-clause-past : goal.returns-in-Err-clause-past
returns-in-Err-clause-past c =
    let n = c.requires.count in
    let h = c.requires.touched c.loop-i.i 0 c.loop-i-test.true in
    let e = row_there c.args.rows.now (get_or c.args.touched.now c.loop-i.i 0) c.index-rows-k.result (omega arith) c.index-rows-k.is in
    let m = c.requires.given in
    let f = row_there c.args.rows.now (get_or c.args.touched.now c.loop-i.i 0) c.index-rows-k-in-Err.result (omega arith) c.index-rows-k-in-Err.is in
    let g = row_there c.args.given.now 0 c.index-given-0.result (omega arith) c.index-given-0.is in
    values_past (map row_view c.args.given.now) c.args.basis.now (map row_view c.args.rows.now) (place_at c.args.places.now) (get_or
    c.args.touched.now c.loop-i.i 0)
    (get_or c.args.basis.now (get_or c.args.touched.now c.loop-i.i 0) 0)
    c.index-rows-k-in-Err.result.items c.index-given-0.result.items c.deref-in-Err.result.now c.deref-in-Err-2.result.now c.in-Err.past c.past_over.result
    (slice_get-get_or c.args.basis.now (get_or c.args.touched.now c.loop-i.i 0) 0 h) f g c.deref-in-Err.ensures.value c.deref-in-Err-2.ensures.value
    c.past_over.ensures
    (subst (λ (r : List (ℕ × ℤ)). IsValuePast (get_or c.args.basis.now (get_or c.args.touched.now c.loop-i.i 0) 0) (place_at c.args.places.now) r c.in-Err.past)
    (c.deref.ensures.value ∙ same_some c.index-rows-k.result.items c.index-rows-k-in-Err.result.items (sym e ∙ f))
    c.in-Err.ensures.past)

pub loop-i-preserved : goal.loop-i-preserved
loop-i-preserved c =
    let n = c.requires.count in
    let h = c.requires.touched c.loop-i.i 0 c.loop-i-test.true in
    let e = row_there c.args.rows.now (get_or c.args.touched.now c.loop-i.i 0) c.index-rows-k.result (omega arith) c.index-rows-k.is in
    let f0 : SFits w128 c.in-Ok.v.0 = search rules in
    let f1 : SFits w128 c.in-Ok.v.1 = search rules in
    let q = c.in-Ok.ensures.value in
    values_next c.args.basis.now (map row_view c.args.rows.now) c.args.places.now c.loop-i.values.items (drop c.loop-i.i c.args.touched.now)
    (drop (c.loop-i.i + 1) c.args.touched.now) (get_or c.args.touched.now c.loop-i.i 0)
    (get_or c.args.basis.now (get_or c.args.touched.now c.loop-i.i 0) 0) c.index-rows-k.result.items c.in-Ok.v
    (next_in c.args.touched.now c.loop-i.i (get_or c.args.touched.now c.loop-i.i 0) c.loop-i-test.true
    (any_default c.args.touched.now c.loop-i.i 0 (get_or c.args.touched.now c.loop-i.i 0) c.loop-i-test.true))
    c.requires.different (slice_get-get_or c.args.basis.now (get_or c.args.touched.now c.loop-i.i 0) 0 h) e (c.requires.in_range (get_or
    c.args.touched.now c.loop-i.i 0) 0 h)
    (subst (λ (r : List (ℕ × ℤ)). IsRowValue (length c.args.places.now) (get_or c.args.basis.now (get_or c.args.touched.now c.loop-i.i 0) 0)
    (place_at c.args.places.now) r c.in-Ok.v) c.deref.ensures.value q)
    c.loop-i.invariant

pub returns-clause-values : goal.returns-clause-values
returns-clause-values c = values_done c.args.basis.now (map row_view c.args.rows.now) c.args.places.now c.loop-i.values.items
    (drop c.loop-i.i c.args.touched.now)
    (none_left c.args.touched.now c.loop-i.i (length c.args.touched.now) (length c.args.touched.now) c.loop-i-test.false refl refl) c.loop-i.invariant
