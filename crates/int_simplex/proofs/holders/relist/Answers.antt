use Rattle.std.specs.Int.{w128}
use Rattle.std.specs.Prelude.{◌≡◌, ◌+◌, ℕ, suc, drop, min}
use Rattle.std.proofs.Common.{rules, arith, subst, ap, ◌∙◌}
use Rattle.std.proofs.lemmas.Int.{to_z-of_z}
use mir.Val.{SFits}
use Rattle.int_simplex.specs.Sparse.{first_column}
use Rattle.int_simplex.specs.Holding.{lists_of}
use Rattle.int_simplex.proofs.Holding.{IsRelistedTo, relisted_none, relisting_at, relisted_more, relisted_end, relisted_done}
use Rattle.int_simplex.proofs.holders.relist.Goals as goal

pub loop-next-init : goal.loop-next-init
loop-next-init c = record {
  rows = relisted_none c.args.columns c.args.k c.args.old.now c.args.new.now (lists_of c.args.lists.now.items) c.requires.old c.requires.new;
  low = omega arith;
  high = omega arith;
}

pub returns-then-column-columns-clause-held : goal.returns-then-column-columns-clause-held
returns-then-column-columns-clause-held c =
    let x = c.loop-next.invariant.rows in
    let a = relisting_at c.args.columns c.loop-next.next c.args.k c.lesser-column.result c.args.old.now c.args.new.now _ _
    (lists_of c.args.lists.now.items) (lists_of c.loop-next.lists.items) x
    (c.lesser-column.ensures ∙ ap (λ (k : ℕ). min k c.column_at-in-loop-next.result) c.column_at.ensures ∙ ap
    (λ (k : ℕ). min (first_column (drop c.loop-next.i c.args.old.now) c.args.columns) k) c.column_at-in-loop-next.ensures) in
    relisted_end c.args.columns c.loop-next.next c.args.k c.lesser-column.result c.args.old.now c.args.new.now _ _
    (lists_of c.args.lists.now.items) (lists_of c.loop-next.lists.items) x a c.if-column-columns.true

pub loop-next-smaller : goal.loop-next-smaller
loop-next-smaller c =
    let x = c.loop-next.invariant.rows in
    let a = relisting_at c.args.columns c.loop-next.next c.args.k c.lesser-column.result c.args.old.now c.args.new.now _ _
    (lists_of c.args.lists.now.items) (lists_of c.loop-next.lists.items) x
    (c.lesser-column.ensures ∙ ap (λ (k : ℕ). min k c.column_at-in-loop-next.result) c.column_at.ensures ∙ ap
    (λ (k : ℕ). min (first_column (drop c.loop-next.i c.args.old.now) c.args.columns) k) c.column_at-in-loop-next.ensures) in
    let l = a.low in let h = c.if-column-columns.false in omega arith

pub loop-next-preserved : goal.loop-next-preserved
loop-next-preserved c =
    let fa : SFits w128 c.number_at-was.result = search rules in
    let fb : SFits w128 c.number_at-is.result = search rules in
    let x = c.loop-next.invariant.rows in
    let a = relisting_at c.args.columns c.loop-next.next c.args.k c.lesser-column.result c.args.old.now c.args.new.now _ _
    (lists_of c.args.lists.now.items) (lists_of c.loop-next.lists.items) x
    (c.lesser-column.ensures ∙ ap (λ (k : ℕ). min k c.column_at-in-loop-next.result) c.column_at.ensures ∙ ap
    (λ (k : ℕ). min (first_column (drop c.loop-next.i c.args.old.now) c.args.columns) k) c.column_at-in-loop-next.ensures) in
    let n = simp to_z-of_z at c.in_ok-note.ensures in
    let e : suc c.lesser-column.result ≡ c.lesser-column.result + 1 = omega arith in
    let s = relisted_more c.args.columns c.loop-next.next c.args.k c.lesser-column.result c.number_at-was.result c.number_at-is.result
    c.args.old.now c.args.new.now _ _ _ _ (lists_of c.args.lists.now.items) (lists_of c.loop-next.lists.items) (lists_of c.note.new.lists.items)
    c.if-column-columns.false c.requires.held x a c.number_at-was.ensures c.number_at-is.ensures
    c.place_after-i.ensures.rest c.place_after-j.ensures.rest n in
    record {
      rows = subst (λ (k : ℕ). IsRelistedTo c.args.columns k c.args.k c.args.old.now c.args.new.now (drop c.place_after-i.result c.args.old.now)
          (drop c.place_after-j.result c.args.new.now) (lists_of c.args.lists.now.items) (lists_of c.note.new.lists.items)) e s;
      low = c.place_after-i.ensures.within;
      high = c.place_after-j.ensures.within;
    }

pub returns-clause-held : goal.returns-clause-held
returns-clause-held c =
    relisted_done c.args.columns c.loop-next.next c.args.k c.args.old.now c.args.new.now _ _
    (lists_of c.args.lists.now.items) (lists_of c.loop-next.lists.items) c.loop-next.invariant.rows c.loop-next-test.false
