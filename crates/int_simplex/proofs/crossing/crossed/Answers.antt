use Rattle.std.specs.Int.{w128}
use Rattle.std.specs.Prelude.{◌≡◌, ◌+◌, ℕ, List, suc, drop, min}
use Rattle.std.proofs.Common.{rules, arith, subst, sym, ap, ◌∙◌}
use Rattle.std.proofs.lemmas.Int.{to_z-of_z}
use mir.Val.{SFits, to_z}
use lib.IntN.{ℤ, pos}
use Rattle.int_simplex.specs.Sparse.{first_column}
use Rattle.int_simplex.specs.Crossing.{crossed}
use Rattle.int_simplex.specs.Making.{IsMadeTo}
use Rattle.int_simplex.proofs.Content.{not_zero}
use Rattle.int_simplex.proofs.Crossings.{IsCrossingTo, crossing_at, crossing_end, crossing_done, crossing_step, crossing_number, row_past, made_more, made_skip, made_none, left_all}
use Rattle.int_simplex.proofs.crossing.crossed.Goals as goal
use Rattle.int_simplex.proofs.crossing.crossed.Goals.{then-z-ne0+in_ok-push, else-z-ne0}

pub loop-next-init : goal.loop-next-init
loop-next-init c =
    let fp : SFits w128 c.args.p = c.ranges.p in
    let fq : SFits w128 c.args.q = c.ranges.q in
    simp to_z-of_z (record {
      rows = record {
        made = subst (λ (out : List (ℕ × ℤ)). IsMadeTo 0 (crossed c.args.p c.args.q c.args.row.now c.args.other.now) out) (sym c.new-out.ensures.items)
            (made_none (crossed c.args.p c.args.q c.args.row.now c.args.other.now));
        left_part = left_all c.args.columns c.args.row.now c.requires.row;
        right_part = left_all c.args.columns c.args.other.now c.requires.other;
        within = omega arith;
      };
      low = omega arith;
      high = omega arith;
    })

pub returns-then-column-columns-clause-made : goal.returns-then-column-columns-clause-made
returns-then-column-columns-clause-made c =
    let fp : SFits w128 c.args.p = c.ranges.p in
    let fq : SFits w128 c.args.q = c.ranges.q in
    let x = simp to_z-of_z at c.loop-next.invariant.rows in
    let a = crossing_at c.args.columns c.loop-next.next c.lesser-column.result c.args.p c.args.q c.args.row.now c.args.other.now _ _
    c.loop-next.out.items x (c.lesser-column.ensures ∙ ap (λ (k : ℕ). min k c.column_at-in-loop-next.result) c.column_at.ensures ∙ ap
    (λ (k : ℕ). min (first_column (drop c.loop-next.i c.args.row.now) c.args.columns) k) c.column_at-in-loop-next.ensures) in
    crossing_end c.args.columns c.loop-next.next c.lesser-column.result c.args.p c.args.q c.args.row.now c.args.other.now _ _
    c.loop-next.out.items x a c.if-column-columns.true

pub returns-in_err-z-clause-past : goal.returns-in_err-z-clause-past
returns-in_err-z-clause-past c =
    let fp : SFits w128 c.args.p = c.ranges.p in
    let fq : SFits w128 c.args.q = c.ranges.q in
    let fa : SFits w128 c.number_at.result = search rules in
    let fb : SFits w128 c.number_at-in-loop-next.result = search rules in
    let x = simp to_z-of_z at c.loop-next.invariant.rows in
    let a = crossing_at c.args.columns c.loop-next.next c.lesser-column.result c.args.p c.args.q c.args.row.now c.args.other.now _ _
    c.loop-next.out.items x (c.lesser-column.ensures ∙ ap (λ (k : ℕ). min k c.column_at-in-loop-next.result) c.column_at.ensures ∙ ap
    (λ (k : ℕ). min (first_column (drop c.loop-next.i c.args.row.now) c.args.columns) k) c.column_at-in-loop-next.ensures) in
    let e = simp to_z-of_z at c.in_err-z.ensures in
    let f = c.from_residual.ensures in
    let na = c.number_at.ensures in
    let nb = c.number_at-in-loop-next.ensures in
    row_past c.args.columns c.loop-next.next c.lesser-column.result c.args.p c.args.q c.number_at.result c.number_at-in-loop-next.result
    c.args.row.now c.args.other.now _ _
    c.in_err-z.field-0.0 c.from_residual.result a na nb e f.1

pub loop-next-smaller : goal.loop-next-smaller
loop-next-smaller c =
    let x = c.loop-next.invariant.rows in
    let a = crossing_at c.args.columns c.loop-next.next c.lesser-column.result _ _ c.args.row.now c.args.other.now _ _ c.loop-next.out.items
    x (c.lesser-column.ensures ∙ ap (λ (k : ℕ). min k c.column_at-in-loop-next.result) c.column_at.ensures ∙ ap
    (λ (k : ℕ). min (first_column (drop c.loop-next.i c.args.row.now) c.args.columns) k) c.column_at-in-loop-next.ensures) in
    let l = a.low in let h = c.if-column-columns.false in omega arith

pub loop-next-preserved : goal.loop-next-preserved
loop-next-preserved c =
    let fp : SFits w128 c.args.p = c.ranges.p in
    let fq : SFits w128 c.args.q = c.ranges.q in
    let fa : SFits w128 c.number_at.result = search rules in
    let fb : SFits w128 c.number_at-in-loop-next.result = search rules in
    let fz : SFits w128 c.in_ok-z.z = search rules in
    let x = simp to_z-of_z at c.loop-next.invariant.rows in
    let a = crossing_at c.args.columns c.loop-next.next c.lesser-column.result c.args.p c.args.q c.args.row.now c.args.other.now _ _
    c.loop-next.out.items x (c.lesser-column.ensures ∙ ap (λ (k : ℕ). min k c.column_at-in-loop-next.result) c.column_at.ensures ∙ ap
    (λ (k : ℕ). min (first_column (drop c.loop-next.i c.args.row.now) c.args.columns) k) c.column_at-in-loop-next.ensures) in
    let e = simp to_z-of_z at c.in_ok-z.ensures in
    let na = c.number_at.ensures in
    let nb = c.number_at-in-loop-next.ensures in
    let z = crossing_number c.args.columns c.loop-next.next c.lesser-column.result c.args.p c.args.q c.in_ok-z.z c.number_at.result
    c.number_at-in-loop-next.result
    c.args.row.now c.args.other.now _ _ a na nb e in
    let n : suc c.lesser-column.result ≡ c.lesser-column.result + 1 = omega arith in
    let m : IsMadeTo (suc c.lesser-column.result) (crossed c.args.p c.args.q c.args.row.now c.args.other.now) c.if-z-ne0.out.items = elim c.if-z-ne0.branch [
      | then-z-ne0+in_ok-push w ↦
          let i = simp to_z-of_z at w.in_ok-push.ensures.items in
          subst (λ (out : List (ℕ × ℤ)). IsMadeTo (suc c.lesser-column.result) (crossed c.args.p c.args.q c.args.row.now c.args.other.now) out)
          (sym i ∙ ap (λ v. v.items) (sym w.out-is))
          (made_more c.loop-next.next c.lesser-column.result (crossed c.args.p c.args.q c.args.row.now c.args.other.now)
          c.loop-next.out.items c.in_ok-z.z x.made a.low a.zero z
          (not_zero c.in_ok-z.z w.if-z-ne0.true))
      | else-z-ne0 w ↦
          let o : c.in_ok-z.z ≡ pos 0 = simp to_z-of_z at (ap (to_z w128) w.if-z-ne0.false) in
          subst (λ (out : List (ℕ × ℤ)). IsMadeTo (suc c.lesser-column.result) (crossed c.args.p c.args.q c.args.row.now c.args.other.now) out)
          (ap (λ v. v.items) (sym w.out-is))
          (made_skip c.loop-next.next c.lesser-column.result (crossed c.args.p c.args.q c.args.row.now c.args.other.now)
          c.loop-next.out.items x.made a.low a.zero (sym z ∙ o))
    ] in
    let s = crossing_step c.args.columns c.loop-next.next c.lesser-column.result c.args.p c.args.q c.args.row.now c.args.other.now _ _ _ _
    c.loop-next.out.items c.if-z-ne0.out.items
    c.if-column-columns.false a c.place_after-i.ensures.rest c.place_after-j.ensures.rest m in
    simp to_z-of_z (record {
      rows = subst (λ (k : ℕ). IsCrossingTo c.args.columns k c.args.p c.args.q c.args.row.now c.args.other.now (drop c.place_after-i.result c.args.row.now)
          (drop c.place_after-j.result c.args.other.now) c.if-z-ne0.out.items) n s;
      low = c.place_after-i.ensures.within;
      high = c.place_after-j.ensures.within;
    })

pub returns-clause-made : goal.returns-clause-made
returns-clause-made c =
    let fp : SFits w128 c.args.p = c.ranges.p in
    let fq : SFits w128 c.args.q = c.ranges.q in
    let x = simp to_z-of_z at c.loop-next.invariant.rows in
    crossing_done c.args.columns c.loop-next.next c.args.p c.args.q c.args.row.now c.args.other.now _ _ c.loop-next.out.items x c.loop-next-test.false
