use Rattle.std.specs.Prelude.{ℕ, List, length, map}
use Rattle.std.proofs.Common.{sym, subst, arith}
use Rattle.std.specs.declared.vec.Vec.{Vec}
use Rattle.std.specs.declared.alloc.Global.{Global}
use lib.IntN.{ℤ}
use Rattle.proof_steps.specs.View.{row_view}
use Rattle.int_simplex.specs.Valued.{place_at, IsValuesPast}
use Rattle.int_simplex.specs.Running.{IsKept, IsTurnOf, IsStopped, IsMove}
use Rattle.int_simplex.specs.declared.moving.Move.TheVariants as m
use Rattle.int_simplex.proofs.Stops.{values_result}
use Rattle.int_simplex.proofs.Turns.{in-list, places_after}
use Rattle.int_simplex.proofs.Walks.{move_at, long_at, step_at, free_error}
use Rattle.int_simplex.proofs.run.walk.Goals as goal

pub returns-in_err-refresh-clause-past : goal.returns-in_err-refresh-clause-past
returns-in_err-refresh-clause-past c =
    free_error (map row_view c.args.given.now) (length c.args.lowers.now) c.args.places.now.items c.args.lowers.now c.args.uppers.now
    c.in_err-refresh.field-0.0 c.from_residual.result
    (λ numbers a l. values_result (map row_view c.args.given.now) (length c.args.lowers.now) c.args.basis.now.items
    (map row_view c.args.rows.now.items) c.args.places.now.items c.requires.ready c.in_err-refresh.field-0.0
    (subst (λ (ps : List ℤ). IsValuesPast (map row_view c.args.given.now) c.args.basis.now.items (map row_view c.args.rows.now.items)
    (place_at ps) c.in_err-refresh.field-0.0) c.deref-5.ensures.value
    (subst (λ (xs : List (Vec (ℕ × ℤ) Global)). IsValuesPast (map row_view c.args.given.now) c.args.basis.now.items (map row_view xs)
    (place_at c.deref-5.result.now) c.in_err-refresh.field-0.0) c.deref-3.ensures.value
    (subst (λ (b : List ℕ). IsValuesPast (map row_view c.args.given.now) b (map row_view c.deref-3.result.now)
    (place_at c.deref-5.result.now) c.in_err-refresh.field-0.0) c.deref.ensures.value
    c.in_err-refresh.ensures.past))) numbers a)
    c.from_residual.ensures.1

pub returns-in_err-next_move-clause-past : goal.returns-in_err-next_move-clause-past
returns-in_err-next_move-clause-past c =
    free_error (map row_view c.args.given.now) (length c.args.lowers.now) c.args.places.now.items c.args.lowers.now c.args.uppers.now
    c.in_err-next_move.field-0.0 c.from_residual-in_err-next_move.result
    (λ numbers a l. c.in_err-next_move.ensures.past numbers) c.from_residual-in_err-next_move.ensures.1

pub returns-in-Fits-clause-found : goal.returns-in-Fits-clause-found
returns-in-Fits-clause-found c = λ bounds a.
    let w = c.loop-farkas.invariant.way bounds a in let q = w.sum in (
      record { made = w.made; within = omega arith; leads = w.leads },
      move_at (map row_view c.args.given.now) (length c.args.lowers.now) bounds c.deref-in-loop-farkas.result.now c.loop-farkas.basis.items
          c.deref-in-loop-farkas-4.result.now c.loop-farkas.places.items m.Fits
          c.deref-in-loop-farkas.ensures.value c.deref-in-loop-farkas-4.ensures.value (rw c.in-Fits.is at (c.in_ok-next_move.ensures.found bounds a)),
    )

pub returns-in-Refuted-clause-found : goal.returns-in-Refuted-clause-found
returns-in-Refuted-clause-found c = λ bounds a.
    let w = c.loop-farkas.invariant.way bounds a in let q = w.sum in (
      record { made = w.made; within = omega arith; leads = w.leads },
      move_at (map row_view c.args.given.now) (length c.args.lowers.now) bounds c.deref-in-loop-farkas.result.now c.loop-farkas.basis.items
          c.deref-in-loop-farkas-4.result.now c.loop-farkas.places.items (m.Refuted c.in-Refuted.farkas)
          c.deref-in-loop-farkas.ensures.value c.deref-in-loop-farkas-4.ensures.value (rw c.in-Refuted.is at (c.in_ok-next_move.ensures.found bounds a)),
    )

pub returns-then-left-eq0-clause-found : goal.returns-then-left-eq0-clause-found
returns-then-left-eq0-clause-found c = λ bounds a.
    long_at (map row_view c.args.given.now) (length c.args.lowers.now) bounds c.args.pivots c.loop-farkas.left _ _ c.in-Pivot.out
    c.in-Pivot.column c.if-left-eq0.true
    (c.loop-farkas.invariant.way bounds a)
    (move_at (map row_view c.args.given.now) (length c.args.lowers.now) bounds c.deref-in-loop-farkas.result.now c.loop-farkas.basis.items
    c.deref-in-loop-farkas-4.result.now c.loop-farkas.places.items (m.Pivot c.in-Pivot.out c.in-Pivot.column)
    c.deref-in-loop-farkas.ensures.value c.deref-in-loop-farkas-4.ensures.value (rw c.in-Pivot.is at (c.in_ok-next_move.ensures.found bounds a)))

pub loop-farkas-preserved : goal.loop-farkas-preserved
loop-farkas-preserved c =
    let k = c.loop-farkas.invariant.kept in
    let t = subst (λ (b : List ℕ). IsTurnOf b (map row_view c.deref-in-loop-farkas-2.result.now) c.args.lowers.now c.args.uppers.now
    (length c.args.lowers.now) (m.Pivot c.in-Pivot.out c.in-Pivot.column)) c.deref-in-loop-farkas.ensures.value
    (rw c.in-Pivot.is at c.in_ok-next_move.ensures.turn) in
    let h = in-list (length c.args.lowers.now) c.loop-farkas.basis.items c.in-Pivot.out.at c.in-Pivot.out.column k.ready.in_range t.crossing.stands in
    let g = k.width in
    let p = c.in_ok-turn-in-Pivot.ensures.places in
    record {
      kept = subst (λ (n : ℕ). IsKept (map row_view c.args.given.now) n c.turn.new.basis.items
          (map row_view c.turn.new.rows.items) c.turn.new.places.items c.turn.new.values.items) g
          c.in_ok-turn-in-Pivot.ensures.kept;
      listed = c.in_ok-turn-in-Pivot.ensures.listed;
      seats = c.in_ok-turn-in-Pivot.ensures.seats;
      way = λ bounds a. step_at (map row_view c.args.given.now) (length c.args.lowers.now) bounds c.args.pivots c.loop-farkas.left _
          c.loop-farkas.basis.items c.turn.new.basis.items
          c.loop-farkas.places.items c.turn.new.places.items c.in-Pivot.out c.in-Pivot.column c.if-left-eq0.false
          c.in_ok-turn-in-Pivot.ensures.basis p (omega arith)
          (c.loop-farkas.invariant.way bounds a)
          (move_at (map row_view c.args.given.now) (length c.args.lowers.now) bounds c.deref-in-loop-farkas.result.now
          c.loop-farkas.basis.items c.deref-in-loop-farkas-4.result.now c.loop-farkas.places.items
          (m.Pivot c.in-Pivot.out c.in-Pivot.column)
          c.deref-in-loop-farkas.ensures.value c.deref-in-loop-farkas-4.ensures.value (rw c.in-Pivot.is at (c.in_ok-next_move.ensures.found bounds a)));
      allowed = λ numbers a l.
          let y = places_after numbers c.loop-farkas.places.items c.in-Pivot.out.column c.in-Pivot.out.limit (omega arith)
          (c.loop-farkas.invariant.allowed numbers a l)
          (l c.in-Pivot.out.side c.in-Pivot.out.column c.in-Pivot.out.limit t.limit) in
          let P : List ℤ → Type 0 = λ ps. Rattle.int_simplex.specs.Running.ArePlacesOf numbers ps in subst P (sym p) y;
    }

pub returns-in_err-turn-in-Pivot-clause-past : goal.returns-in_err-turn-in-Pivot-clause-past
returns-in_err-turn-in-Pivot-clause-past c =
    let k = c.loop-farkas.invariant.kept in
    let t = subst (λ (b : List ℕ). IsTurnOf b (map row_view c.deref-in-loop-farkas-2.result.now) c.args.lowers.now c.args.uppers.now
    (length c.args.lowers.now) (m.Pivot c.in-Pivot.out c.in-Pivot.column)) c.deref-in-loop-farkas.ensures.value
    (rw c.in-Pivot.is at c.in_ok-next_move.ensures.turn) in
    free_error (map row_view c.args.given.now) (length c.args.lowers.now) c.args.places.now.items c.args.lowers.now c.args.uppers.now
    c.in_err-turn-in-Pivot.field-0.0 c.from_residual-in_err-turn-in-Pivot.result
    (λ numbers a l. subst (λ (n : ℕ). IsStopped (map row_view c.args.given.now) n numbers c.in_err-turn-in-Pivot.field-0.0) k.width
    (c.in_err-turn-in-Pivot.ensures.past numbers (c.loop-farkas.invariant.allowed numbers a l)
    (l c.in-Pivot.out.side c.in-Pivot.out.column c.in-Pivot.out.limit t.limit)))
    c.from_residual-in_err-turn-in-Pivot.ensures.1
