use Rattle.std.specs.Prelude.{ℕ, ◌≡◌, List, length, map, Option}
use Rattle.std.proofs.Common.{sym, ◌∙◌, ap, subst}
use Rattle.std.specs.declared.vec.Vec.{Vec}
use Rattle.std.specs.declared.alloc.Global.{Global}
use lib.IntN.{ℤ}
use Rattle.proof_steps.specs.View.{row_view}
use Rattle.int_simplex.specs.Inner.{standing, state_of}
use Rattle.int_simplex.specs.State.{State, beginning}
use Rattle.proof_steps.specs.Stopped.{IsPastStep}
use Rattle.proof_steps.specs.StopView.{past_view}
use Rattle.int_simplex.specs.Answers.{IsLong, IsChecked, IsNumberOf}
use Rattle.int_simplex.specs.Sound.{IsUncrossed}
use Rattle.int_simplex.specs.Running.{IsReady, IsKept}
use Rattle.int_simplex.specs.Seating.{AreSeats}
use Rattle.int_simplex.proofs.Checked.{refuted_from, fits_from}
use Rattle.int_simplex.proofs.Passed.{past_from}
use Rattle.int_simplex.proofs.Fresh.{own_kept}
use Rattle.int_simplex.proofs.Checks.{ready_of, tables_of, sound_kept, first_is, first_at, tables_at, long_from, started}
use Rattle.int_simplex.proofs.table.Tableau.check.Goals as goal

pub walk-walked-requires-clause-ready : goal.walk-walked-requires-clause-ready
walk-walked-requires-clause-ready c =
    let u = c.requires in
    let v = c.self.view_is in
    let r = ready_of c.self.inside (ap (λ s. s.usable) v ∙ u) c.self.invariant in
    let n : c.self.inside.columns ≡ length c.deref-10.result.now = sym c.self.invariant.lowers.count ∙ ap length (sym c.deref-10.ensures.value) in
    subst (λ (k : ℕ). IsReady (map row_view c.deref-9.result.now) k c.self.inside.basis.items (map row_view c.self.inside.rows.items)) n
    (subst (λ (g : List (Vec (ℕ × ℤ) Global)). IsReady (map row_view g) c.self.inside.columns c.self.inside.basis.items
    (map row_view c.self.inside.rows.items)) (sym c.deref-9.ensures.value) r)

pub walk-walked-requires-clause-listed : goal.walk-walked-requires-clause-listed
walk-walked-requires-clause-listed c = c.self.invariant.listed (ap (λ s. s.usable) c.self.view_is ∙ c.requires)

pub start_of-requires-clause-seats : goal.start_of-requires-clause-seats
start_of-requires-clause-seats c =
    let u = ap (λ s. s.usable) c.self.view_is ∙ c.requires in
    let n : c.self.inside.columns ≡ length c.deref-4.result.now = sym ((c.self.invariant.sound u).count) ∙ ap length (sym c.deref-4.ensures.value) in
    subst (λ (m : ℕ). AreSeats m c.deref.result.now c.deref-2.result.now) n
    (subst (λ (b : List ℕ). AreSeats c.self.inside.columns b c.deref-2.result.now) (sym c.deref.ensures.value)
    (subst (λ (s : List (Option ℕ)). AreSeats c.self.inside.columns c.self.inside.basis.items s) (sym c.deref-2.ensures.value)
    (c.self.invariant.seats u)))

pub walk-walked-requires-clause-places : goal.walk-walked-requires-clause-places
walk-walked-requires-clause-places c =
    let i = c.self.invariant in let u = ap (λ s. s.usable) c.self.view_is ∙ c.requires in
    let f = c.in_ok-places.ensures c.self.inside.columns c.self.inside.basis.items
    (subst (AreSeats c.self.inside.columns c.self.inside.basis.items) (sym c.deref-5.ensures.value) (i.seats u)) in
    f.count ∙ ap length c.deref-6.ensures.value ∙ (i.sound u).count ∙ sym i.lowers.count ∙ ap length (sym c.deref-10.ensures.value)

pub walk-walked-requires-clause-seats : goal.walk-walked-requires-clause-seats
walk-walked-requires-clause-seats c = c.self.invariant.seats (ap (λ s. s.usable) c.self.view_is ∙ c.requires)

pub walk-walked-requires-clause-own : goal.walk-walked-requires-clause-own
walk-walked-requires-clause-own c = c.self.invariant.own (ap (λ s. s.usable) c.self.view_is ∙ c.requires)

pub invariant_of-self : goal.invariant_of-self
invariant_of-self c =
    let i = c.self.invariant in
    let v = c.self.view_is in
    let t = tables_of c.self.inside (ap (λ s. s.usable) v ∙ c.requires) i in
    let n : length c.deref-10.result.now ≡ c.self.inside.columns = ap length c.deref-10.ensures.value ∙ i.lowers.count in
    let k = subst (λ (k : ℕ). IsKept (map row_view c.deref-9.result.now) k c.walk-walked.new.basis.items
    (map row_view c.walk-walked.new.rows.items) c.walk-walked.new.places.items c.walk-walked.new.values.items) n
    (let z = rw c.in-Ok-Fits.is at c.walk-walked.ensures.kept in let y = rw c.in-Ok-Fits.field-0-is at z in y tt) in
    let q = subst (λ (g : List (Vec (ℕ × ℤ) Global)). IsKept (map row_view g) c.self.inside.columns c.walk-walked.new.basis.items
    (map row_view c.walk-walked.new.rows.items) c.walk-walked.new.places.items c.walk-walked.new.values.items) c.deref-9.ensures.value k
    in
    record {
      sound = λ u. sound_kept (map row_view c.self.inside.given.items) c.self.inside.columns c.walk-walked.new.basis.items
          (map row_view c.walk-walked.new.rows.items) c.walk-walked.new.places.items c.walk-walked.new.values.items q
          (map standing c.self.inside.trail.items) c.self.inside.usable t.of_columns t.uncrossed;
      rows = λ u. q.ready.are_rows;
      free = λ u. q.ready.free;
      listed = λ u. let z = rw c.in-Ok-Fits.is at c.walk-walked.ensures.listed in let y = rw c.in-Ok-Fits.field-0-is at z in y tt;
      seats = λ u. let z = rw c.in-Ok-Fits.is at c.walk-walked.ensures.seats in let y = rw c.in-Ok-Fits.field-0-is at z in y tt;
      own = λ u. own_kept (map row_view c.self.inside.given.items) c.self.inside.columns c.walk-walked.new.basis.items
          (map row_view c.walk-walked.new.rows.items) c.walk-walked.new.places.items c.walk-walked.new.values.items q;
      lowers = i.lowers;
      uppers = i.uppers;
      before = i.before;
      columns = i.columns;
    }

pub invariant_of-self-in-Ok-Refuted : goal.invariant_of-self-in-Ok-Refuted
invariant_of-self-in-Ok-Refuted c =
    let i = c.self.invariant in
    let v = c.self.view_is in
    let t = tables_of c.self.inside (ap (λ s. s.usable) v ∙ c.requires) i in
    let n : length c.deref-10.result.now ≡ c.self.inside.columns = ap length c.deref-10.ensures.value ∙ i.lowers.count in
    let k = subst (λ (k : ℕ). IsKept (map row_view c.deref-9.result.now) k c.walk-walked.new.basis.items
    (map row_view c.walk-walked.new.rows.items) c.walk-walked.new.places.items c.walk-walked.new.values.items) n
    (let z = rw c.in-Ok-Refuted.is at c.walk-walked.ensures.kept in let y = rw c.in-Ok-Refuted.field-0-is at z in y tt) in
    let q = subst (λ (g : List (Vec (ℕ × ℤ) Global)). IsKept (map row_view g) c.self.inside.columns c.walk-walked.new.basis.items
    (map row_view c.walk-walked.new.rows.items) c.walk-walked.new.places.items c.walk-walked.new.values.items) c.deref-9.ensures.value k
    in
    record {
      sound = λ u. sound_kept (map row_view c.self.inside.given.items) c.self.inside.columns c.walk-walked.new.basis.items
          (map row_view c.walk-walked.new.rows.items) c.walk-walked.new.places.items c.walk-walked.new.values.items q
          (map standing c.self.inside.trail.items) c.self.inside.usable t.of_columns t.uncrossed;
      rows = λ u. q.ready.are_rows;
      free = λ u. q.ready.free;
      listed = λ u. let z = rw c.in-Ok-Refuted.is at c.walk-walked.ensures.listed in let y = rw c.in-Ok-Refuted.field-0-is at z in y tt;
      seats = λ u. let z = rw c.in-Ok-Refuted.is at c.walk-walked.ensures.seats in let y = rw c.in-Ok-Refuted.field-0-is at z in y tt;
      own = λ u. own_kept (map row_view c.self.inside.given.items) c.self.inside.columns c.walk-walked.new.basis.items
          (map row_view c.walk-walked.new.rows.items) c.walk-walked.new.places.items c.walk-walked.new.values.items q;
      lowers = i.lowers;
      uppers = i.uppers;
      before = i.before;
      columns = i.columns;
    }

pub returns-in-Ok-Long-clause-answer : goal.returns-in-Ok-Long-clause-answer
returns-in-Ok-Long-clause-answer c =
    let i = c.self.invariant in
    let v = c.self.view_is in
    let u = ap (λ s. s.usable) v ∙ c.requires in
    let t = tables_of c.self.inside u i in
    let z = rw c.in-Ok-Long.is at c.walk-walked.ensures.found in
    let y = rw c.in-Ok-Long.field-0-is at z in
    let a = y (map standing c.self.inside.trail.items) (tables_at c.self.inside.columns
    (map standing c.self.inside.trail.items) c.self.inside.lowers.items c.deref-10.result.now c.self.inside.uppers.items
    c.deref-11.result.now
    (sym c.deref-10.ensures.value) (sym c.deref-11.ensures.value) t) in
    let f = first_at c.self.inside.columns c.self.inside.basis.items c.self.inside.seats.items c.deref-5.result.now c.self.inside.values.items c.deref-6.result.now
    c.self.inside.lowers.items c.deref-7.result.now c.self.inside.uppers.items c.deref-8.result.now c.in_ok-places.places.items
    c.deref-5.ensures.value c.deref-6.ensures.value c.deref-7.ensures.value c.deref-8.ensures.value (i.seats u) c.in_ok-places.ensures in
    let e = first_is c.self.inside.columns c.self.inside.basis.items c.self.inside.values.items
    (map standing c.self.inside.trail.items) c.self.inside.lowers.items c.self.inside.uppers.items c.in_ok-places.places.items
    c.args.pivots
    t (i.sound u).count f in
    let b = long_from (state_of c.self.inside) (map row_view c.deref-9.result.now)
    (length c.deref-10.result.now) c.in_ok-places.places.items c.args.pivots (ap (map row_view) c.deref-9.ensures.value)
    (ap length c.deref-10.ensures.value ∙ i.lowers.count) e a in
    let g = started c.self.inside.basis.items c.deref.result.now c.self.inside.trail.items c.deref-3.result.now c.self.inside.values.items
    c.deref-4.result.now c.args.pivots
    c.deref.ensures.value c.deref-3.ensures.value c.deref-4.ensures.value in (
      c.in_ok-start.ensures ∙ g ∙ ap (λ (s : State). beginning s c.args.pivots) v,
      subst
          (λ (s : State). IsUncrossed s.bounds) v t.uncrossed,
      subst (λ (s : State). IsLong s c.args.pivots) v b,
    )

pub returns-in-Ok-Refuted-clause-answer : goal.returns-in-Ok-Refuted-clause-answer
returns-in-Ok-Refuted-clause-answer c =
    let i = c.self.invariant in
    let v = c.self.view_is in
    let u = ap (λ s. s.usable) v ∙ c.requires in
    let t = tables_of c.self.inside u i in
    let z = rw c.in-Ok-Refuted.is at c.walk-walked.ensures.found in
    let y = rw c.in-Ok-Refuted.field-0-is at z in
    let a = y (map standing c.self.inside.trail.items) (tables_at c.self.inside.columns
    (map standing c.self.inside.trail.items) c.self.inside.lowers.items c.deref-10.result.now c.self.inside.uppers.items
    c.deref-11.result.now
    (sym c.deref-10.ensures.value) (sym c.deref-11.ensures.value) t) in
    let f = first_at c.self.inside.columns c.self.inside.basis.items c.self.inside.seats.items c.deref-5.result.now c.self.inside.values.items c.deref-6.result.now
    c.self.inside.lowers.items c.deref-7.result.now c.self.inside.uppers.items c.deref-8.result.now c.in_ok-places.places.items
    c.deref-5.ensures.value c.deref-6.ensures.value c.deref-7.ensures.value c.deref-8.ensures.value (i.seats u) c.in_ok-places.ensures in
    let e = first_is c.self.inside.columns c.self.inside.basis.items c.self.inside.values.items
    (map standing c.self.inside.trail.items) c.self.inside.lowers.items c.self.inside.uppers.items c.in_ok-places.places.items
    c.args.pivots
    t (i.sound u).count f in
    let kz = rw c.in-Ok-Refuted.is at c.walk-walked.ensures.kept in let ky = rw c.in-Ok-Refuted.field-0-is at kz in
    let r = refuted_from (state_of c.self.inside) (map row_view c.deref-9.result.now)
    (length c.deref-10.result.now) c.walk-walked.new.basis.items (map row_view c.walk-walked.new.rows.items)
    c.walk-walked.new.values.items
    c.in_ok-places.places.items c.walk-walked.new.places.items c.self.inside.lowers.items c.self.inside.uppers.items c.args.pivots
    (i.sound u) (i.free u) t e (ap (map row_view) c.deref-9.ensures.value) (ap length c.deref-10.ensures.value ∙ i.lowers.count)
    (ky tt) c.in-Ok-Refuted.farkas a in (
      subst (λ (s : State). IsChecked s (record (state_of c.self.inside)
          { basis = c.walk-walked.new.basis.items; values = c.walk-walked.new.values.items }) c.args.pivots) v r.0,
      r.1,
    )

pub returns-in-Err-Past-clause-answer : goal.returns-in-Err-Past-clause-answer
returns-in-Err-Past-clause-answer c =
    let i = c.self.invariant in
    let v = c.self.view_is in
    let u = ap (λ s. s.usable) v ∙ c.requires in
    let t = tables_of c.self.inside u i in
    let z = rw c.in-Err-Past.is at c.walk-walked.ensures.past in
    let y = rw c.in-Err-Past.field-0-is at z in
    let f = first_at c.self.inside.columns c.self.inside.basis.items c.self.inside.seats.items c.deref-5.result.now c.self.inside.values.items c.deref-6.result.now
    c.self.inside.lowers.items c.deref-7.result.now c.self.inside.uppers.items c.deref-8.result.now c.in_ok-places.places.items
    c.deref-5.ensures.value c.deref-6.ensures.value c.deref-7.ensures.value c.deref-8.ensures.value (i.seats u) c.in_ok-places.ensures in
    let r = past_from (state_of c.self.inside) (map row_view c.deref-9.result.now)
    (length c.deref-10.result.now) c.in_ok-places.places.items c.self.inside.lowers.items c.deref-10.result.now c.self.inside.uppers.items
    c.deref-11.result.now
    (i.sound u) t f (ap (map row_view) c.deref-9.ensures.value) (ap length c.deref-10.ensures.value ∙ i.lowers.count) c.deref-10.ensures.value
    c.deref-11.ensures.value c.in-Err-Past.step y in
    subst (λ (s : State). IsPastStep s.given s.columns (IsNumberOf s) (past_view c.in-Err-Past.step)) v r

pub returns-in-Ok-Fits-clause-answer : goal.returns-in-Ok-Fits-clause-answer
returns-in-Ok-Fits-clause-answer c =
    let i = c.self.invariant in
    let v = c.self.view_is in
    let u = ap (λ s. s.usable) v ∙ c.requires in
    let t = tables_of c.self.inside u i in
    let z = rw c.in-Ok-Fits.is at c.walk-walked.ensures.found in
    let y = rw c.in-Ok-Fits.field-0-is at z in
    let a = y (map standing c.self.inside.trail.items) (tables_at c.self.inside.columns
    (map standing c.self.inside.trail.items) c.self.inside.lowers.items c.deref-10.result.now c.self.inside.uppers.items
    c.deref-11.result.now
    (sym c.deref-10.ensures.value) (sym c.deref-11.ensures.value) t) in
    let f = first_at c.self.inside.columns c.self.inside.basis.items c.self.inside.seats.items c.deref-5.result.now c.self.inside.values.items c.deref-6.result.now
    c.self.inside.lowers.items c.deref-7.result.now c.self.inside.uppers.items c.deref-8.result.now c.in_ok-places.places.items
    c.deref-5.ensures.value c.deref-6.ensures.value c.deref-7.ensures.value c.deref-8.ensures.value (i.seats u) c.in_ok-places.ensures in
    let e = first_is c.self.inside.columns c.self.inside.basis.items c.self.inside.values.items
    (map standing c.self.inside.trail.items) c.self.inside.lowers.items c.self.inside.uppers.items c.in_ok-places.places.items
    c.args.pivots
    t (i.sound u).count f in
    let kz = rw c.in-Ok-Fits.is at c.walk-walked.ensures.kept in let ky = rw c.in-Ok-Fits.field-0-is at kz in
    let r = fits_from (state_of c.self.inside) (map row_view c.deref-9.result.now)
    (length c.deref-10.result.now) c.walk-walked.new.basis.items (map row_view c.walk-walked.new.rows.items)
    c.walk-walked.new.values.items
    c.in_ok-places.places.items c.walk-walked.new.places.items c.self.inside.lowers.items c.self.inside.uppers.items c.args.pivots
    (i.sound u) (i.free u) t e (ap (map row_view) c.deref-9.ensures.value) (ap length c.deref-10.ensures.value ∙ i.lowers.count)
    (ky tt) a in (
      subst (λ (s : State). IsChecked s (record (state_of c.self.inside)
          { basis = c.walk-walked.new.basis.items; values = c.walk-walked.new.values.items }) c.args.pivots) v r.0,
      r.1,
    )
