use Rattle.std.specs.Int.{w128}
use Rattle.std.specs.Prelude.{Option, ℕ, ◌≡◌, ◌<◌, List, [], length, map, All, Contains, Some, slice_get, slice_set}
use Rattle.std.proofs.Common.{rules, ap, ◌∙◌, sym, subst, arith}
use Rattle.std.proofs.lemmas.Option.{slice_get_within}
use Rattle.std.proofs.lemmas.List.{length-map, length-set}
use Rattle.std.proofs.lemmas.Int.{to_z-of_z}
use mir.Val.{SFits}
use lib.IntN.{ℤ, pos}
use Rattle.proof_steps.specs.View.{row_view}
use Rattle.proof_steps.specs.Rows.{AllDiffer}
use Rattle.proof_steps.specs.Pivots.{exchanged}
use Rattle.std.specs.declared.vec.Vec.{Vec}
use Rattle.std.specs.declared.alloc.Global.{Global}
use Rattle.int_simplex.specs.Pivoting.{AreTurned}
use Rattle.int_simplex.specs.Sparse.{IsSparse}
use Rattle.int_simplex.specs.Valued.{place_at, AreValues, AreValuesBut, IsValuesPast}
use Rattle.int_simplex.specs.Running.{IsReady}
use Rattle.int_simplex.specs.Seating.{AreSeats}
use Rattle.int_simplex.proofs.Seating.{seats_after}
use Rattle.int_simplex.proofs.Turned.{there}
use Rattle.int_simplex.proofs.Turns.{ready_after, set_exchanged, in-list, turn_stopped, values_stopped}
use Rattle.int_simplex.proofs.Touched.{values_but, all_below}
use Rattle.int_simplex.proofs.moving.turn.Goals as goal

pub returns-in_err-touched-clause-past : goal.returns-in_err-touched-clause-past
returns-in_err-touched-clause-past c =
    let r = c.requires.kept.ready in let t = c.requires.turn in
    let o = there (map row_view c.args.rows.now.items) c.args.basis.now.items [] c.args.out.at c.args.out.column (sym r.are_rows.count) t.stands in
    turn_stopped (map row_view c.args.given.now) (length c.args.places.now.items) c.args.basis.now.items
    (map row_view c.args.rows.now.items) r c.args.out.at c.args.column c.args.out.column
    o.0 c.args.places.now.items c.args.out.limit c.in_err-touched.field-0.0 c.from_residual.result t.stands o.1
    c.in_err-touched.ensures.past c.from_residual.ensures.1

pub index_mut-requires : goal.index_mut-requires
index_mut-requires c =
    let t = c.requires.turn in
    let h = slice_get_within c.args.basis.now.items c.args.out.at c.args.out.column t.stands in
    let k = c.args.basis.now.ok.0 in omega arith

pub index_mut-requires-2 : goal.index_mut-requires-2
index_mut-requires-2 c =
    let h = in-list (length c.args.places.now.items) c.args.basis.now.items c.args.out.at c.args.out.column c.requires.kept.ready.in_range
    c.requires.turn.stands in
    let k = c.args.places.now.ok.0 in omega arith

pub index_mut-requires-3 : goal.index_mut-requires-3
index_mut-requires-3 c =
    let h = in-list (length c.args.places.now.items) c.args.basis.now.items c.args.out.at c.args.out.column c.requires.kept.ready.in_range
    c.requires.turn.stands in
    let n = c.requires.kept.are_values.count in
    let k = c.args.values.now.ok.0 in omega arith

pub update_values-requires-clause-count : goal.update_values-requires-clause-count
update_values-requires-clause-count c =
    let r = c.requires.kept.ready in let t = c.requires.turn in
    let o = there (map row_view c.args.rows.now.items) c.args.basis.now.items [] c.args.out.at c.args.out.column (sym r.are_rows.count) t.stands in
    let tu : AreTurned (length c.args.places.now.items) c.args.out.at c.args.column o.0 (map row_view c.args.rows.now.items)
    (map row_view c.turn_rows.new.rows.items) c.in_ok-touched.touched.items =
    subst (λ (n : ℕ). AreTurned n c.args.out.at c.args.column o.0 (map row_view c.args.rows.now.items)
    (map row_view c.turn_rows.new.rows.items) c.in_ok-touched.touched.items) c.requires.columns
    (c.in_ok-touched.ensures.made o.0 o.1) in
    let ra = ready_after (map row_view c.args.given.now) (length c.args.places.now.items) c.args.basis.now.items
    (map row_view c.args.rows.now.items) (map row_view c.turn_rows.new.rows.items)
    c.args.out c.args.column o.0 r t o.1 tu.next in
    let sb = set_exchanged c.args.basis.now.items c.args.out.at c.args.out.column c.args.column r.different t.stands in
    let e1 : length c.deref-2.result.now ≡ length c.turn_rows.new.rows.items = ap length c.deref-2.ensures.value in
    let e2 : length (map row_view c.turn_rows.new.rows.items) ≡ length c.turn_rows.new.rows.items = length-map c.turn_rows.new.rows.items row_view in
    let e3 = ra.are_rows.count in
    let e4 : length (slice_set c.args.basis.now.items c.args.out.at c.args.column) ≡ length
    (map (exchanged c.args.out.column c.args.column) c.args.basis.now.items) = ap length sb in
    let e5 : length c.deref.result.now ≡ length (slice_set c.args.basis.now.items c.args.out.at c.args.column) = ap length c.deref.ensures.value in
    omega arith

pub update_values-requires-clause-different : goal.update_values-requires-clause-different
update_values-requires-clause-different c =
    let r = c.requires.kept.ready in let t = c.requires.turn in
    let o = there (map row_view c.args.rows.now.items) c.args.basis.now.items [] c.args.out.at c.args.out.column (sym r.are_rows.count) t.stands in
    let tu : AreTurned (length c.args.places.now.items) c.args.out.at c.args.column o.0 (map row_view c.args.rows.now.items)
    (map row_view c.turn_rows.new.rows.items) c.in_ok-touched.touched.items =
    subst (λ (n : ℕ). AreTurned n c.args.out.at c.args.column o.0 (map row_view c.args.rows.now.items)
    (map row_view c.turn_rows.new.rows.items) c.in_ok-touched.touched.items) c.requires.columns
    (c.in_ok-touched.ensures.made o.0 o.1) in
    let ra = ready_after (map row_view c.args.given.now) (length c.args.places.now.items) c.args.basis.now.items
    (map row_view c.args.rows.now.items) (map row_view c.turn_rows.new.rows.items)
    c.args.out c.args.column o.0 r t o.1 tu.next in
    let sb = set_exchanged c.args.basis.now.items c.args.out.at c.args.out.column c.args.column r.different t.stands in
    subst AllDiffer (sym (c.deref.ensures.value ∙ sb)) ra.different

pub update_values-requires-clause-sparse : goal.update_values-requires-clause-sparse
update_values-requires-clause-sparse c = λ k x e.
    let r = c.requires.kept.ready in let t = c.requires.turn in
    let o = there (map row_view c.args.rows.now.items) c.args.basis.now.items [] c.args.out.at c.args.out.column (sym r.are_rows.count) t.stands in
    let tu : AreTurned (length c.args.places.now.items) c.args.out.at c.args.column o.0 (map row_view c.args.rows.now.items)
    (map row_view c.turn_rows.new.rows.items) c.in_ok-touched.touched.items =
    subst (λ (n : ℕ). AreTurned n c.args.out.at c.args.column o.0 (map row_view c.args.rows.now.items)
    (map row_view c.turn_rows.new.rows.items) c.in_ok-touched.touched.items) c.requires.columns
    (c.in_ok-touched.ensures.made o.0 o.1) in
    let ra = ready_after (map row_view c.args.given.now) (length c.args.places.now.items) c.args.basis.now.items
    (map row_view c.args.rows.now.items) (map row_view c.turn_rows.new.rows.items)
    c.args.out c.args.column o.0 r t o.1 tu.next in
    let sb = set_exchanged c.args.basis.now.items c.args.out.at c.args.out.column c.args.column r.different t.stands in
    let f = subst (λ (xs : List (Vec (ℕ × ℤ) Global)). slice_get (map row_view xs) k ≡ Some x) c.deref-2.ensures.value e in
    let n : length c.deref-3.result.now ≡ (length c.args.places.now.items) = ap length c.deref-3.ensures.value
    ∙ length-set c.args.places.now.items c.args.out.column _ in
    subst (λ (m : ℕ). IsSparse m x) (sym n) (ra.are_rows.sparse k x f)

pub update_values-requires-clause-touched : goal.update_values-requires-clause-touched
update_values-requires-clause-touched c =
    let r = c.requires.kept.ready in let t = c.requires.turn in
    let o = there (map row_view c.args.rows.now.items) c.args.basis.now.items [] c.args.out.at c.args.out.column (sym r.are_rows.count) t.stands in
    let tu : AreTurned (length c.args.places.now.items) c.args.out.at c.args.column o.0 (map row_view c.args.rows.now.items)
    (map row_view c.turn_rows.new.rows.items) c.in_ok-touched.touched.items =
    subst (λ (n : ℕ). AreTurned n c.args.out.at c.args.column o.0 (map row_view c.args.rows.now.items)
    (map row_view c.turn_rows.new.rows.items) c.in_ok-touched.touched.items) c.requires.columns
    (c.in_ok-touched.ensures.made o.0 o.1) in
    let ra = ready_after (map row_view c.args.given.now) (length c.args.places.now.items) c.args.basis.now.items
    (map row_view c.args.rows.now.items) (map row_view c.turn_rows.new.rows.items)
    c.args.out c.args.column o.0 r t o.1 tu.next in
    let sb = set_exchanged c.args.basis.now.items c.args.out.at c.args.out.column c.args.column r.different t.stands in
    let n = ra.are_rows.count in let m = tu.next.count in
    let e : length (map (exchanged c.args.out.column c.args.column) c.args.basis.now.items) ≡ length c.deref.result.now = ap length (sym
    (c.deref.ensures.value ∙ sb)) in
    let P : List ℕ → Type 0 = λ xs. All (λ k. k < length c.deref.result.now) xs in
    subst P (sym c.deref-4.ensures.value) (all_below (length c.deref.result.now) c.in_ok-touched.touched.items
    (λ k i.
    let h = c.requires.listed.within c.args.column k (subst (λ (xs : List ℕ). Contains xs k) c.in_ok-touched.ensures.touched i) in omega arith))

pub update_values-requires-clause-others : goal.update_values-requires-clause-others
update_values-requires-clause-others c =
    let r = c.requires.kept.ready in let t = c.requires.turn in
    let o = there (map row_view c.args.rows.now.items) c.args.basis.now.items [] c.args.out.at c.args.out.column (sym r.are_rows.count) t.stands in
    let tu : AreTurned (length c.args.places.now.items) c.args.out.at c.args.column o.0 (map row_view c.args.rows.now.items)
    (map row_view c.turn_rows.new.rows.items) c.in_ok-touched.touched.items =
    subst (λ (n : ℕ). AreTurned n c.args.out.at c.args.column o.0 (map row_view c.args.rows.now.items)
    (map row_view c.turn_rows.new.rows.items) c.in_ok-touched.touched.items) c.requires.columns
    (c.in_ok-touched.ensures.made o.0 o.1) in
    let ra = ready_after (map row_view c.args.given.now) (length c.args.places.now.items) c.args.basis.now.items
    (map row_view c.args.rows.now.items) (map row_view c.turn_rows.new.rows.items)
    c.args.out c.args.column o.0 r t o.1 tu.next in
    let sb = set_exchanged c.args.basis.now.items c.args.out.at c.args.out.column c.args.column r.different t.stands in
    let fl : SFits w128 c.args.out.limit = search rules in
    let h = in-list (length c.args.places.now.items) c.args.basis.now.items c.args.out.at c.args.out.column r.in_range t.stands in
    let here : Contains c.in_ok-touched.touched.items c.args.out.at =
    subst (λ (xs : List ℕ). Contains xs c.args.out.at) (sym c.in_ok-touched.ensures.touched)
    (c.requires.listed.held c.args.out.at o.0 o.1 c.args.column (t.crosses o.0 o.1)) in
    let v = values_but (map row_view c.args.given.now) (length c.args.places.now.items) c.args.basis.now.items (map row_view c.args.rows.now.items)
    (map row_view c.turn_rows.new.rows.items) c.args.out c.args.column o.0 c.in_ok-touched.touched.items r t tu here
    c.args.places.now.items c.args.values.now.items c.args.out.limit h c.requires.kept.are_values in
    let v3 = simp to_z-of_z at c.deref-3.ensures.value in
    simp to_z-of_z
    (subst (λ (ts : List ℕ). AreValuesBut c.deref.result.now (map row_view c.deref-2.result.now) c.deref-3.result.now (slice_set
    c.args.values.now.items c.args.out.column (c.args.out.limit, pos 1)) ts)
    (sym c.deref-4.ensures.value)
    (subst (λ (ps : List ℤ). AreValuesBut c.deref.result.now (map row_view c.deref-2.result.now) ps (slice_set c.args.values.now.items
    c.args.out.column (c.args.out.limit, pos 1)) c.in_ok-touched.touched.items)
    (sym v3)
    (subst (λ (xs : List (Vec (ℕ × ℤ) Global)). AreValuesBut c.deref.result.now (map row_view xs) (slice_set c.args.places.now.items
    c.args.out.column c.args.out.limit)
    (slice_set c.args.values.now.items c.args.out.column (c.args.out.limit, pos 1)) c.in_ok-touched.touched.items) (sym c.deref-2.ensures.value)
    (subst (λ (b : List ℕ). AreValuesBut b (map row_view c.turn_rows.new.rows.items) (slice_set c.args.places.now.items c.args.out.column c.args.out.limit)
    (slice_set c.args.values.now.items c.args.out.column (c.args.out.limit, pos 1)) c.in_ok-touched.touched.items) (sym (c.deref.ensures.value ∙ sb)) v))))

pub returns-in_err-update_values-clause-past : goal.returns-in_err-update_values-clause-past
returns-in_err-update_values-clause-past c =
    let r = c.requires.kept.ready in let t = c.requires.turn in
    let o = there (map row_view c.args.rows.now.items) c.args.basis.now.items [] c.args.out.at c.args.out.column (sym r.are_rows.count) t.stands in
    let tu : AreTurned (length c.args.places.now.items) c.args.out.at c.args.column o.0 (map row_view c.args.rows.now.items)
    (map row_view c.turn_rows.new.rows.items) c.in_ok-touched.touched.items =
    subst (λ (n : ℕ). AreTurned n c.args.out.at c.args.column o.0 (map row_view c.args.rows.now.items)
    (map row_view c.turn_rows.new.rows.items) c.in_ok-touched.touched.items) c.requires.columns
    (c.in_ok-touched.ensures.made o.0 o.1) in
    let ra = ready_after (map row_view c.args.given.now) (length c.args.places.now.items) c.args.basis.now.items
    (map row_view c.args.rows.now.items) (map row_view c.turn_rows.new.rows.items)
    c.args.out c.args.column o.0 r t o.1 tu.next in
    let sb = set_exchanged c.args.basis.now.items c.args.out.at c.args.out.column c.args.column r.different t.stands in
    let fl : SFits w128 c.args.out.limit = search rules in
    let h = in-list (length c.args.places.now.items) c.args.basis.now.items c.args.out.at c.args.out.column r.in_range t.stands in
    let v3 = simp to_z-of_z at c.deref-3.ensures.value in
    values_stopped (map row_view c.args.given.now) (length c.args.places.now.items)
    (map (exchanged c.args.out.column c.args.column) c.args.basis.now.items) (map row_view c.turn_rows.new.rows.items)
    ra c.args.places.now.items c.args.out.column c.args.out.limit c.in_err-update_values.field-0.0 c.from_residual-in_err-update_values.result h
    (subst (λ (ps : List ℤ). IsValuesPast (map row_view c.args.given.now)
    (map (exchanged c.args.out.column c.args.column) c.args.basis.now.items) (map row_view c.turn_rows.new.rows.items)
    (place_at ps) c.in_err-update_values.field-0.0) v3
    (subst (λ (xs : List (Vec (ℕ × ℤ) Global)). IsValuesPast (map row_view c.args.given.now)
    (map (exchanged c.args.out.column c.args.column) c.args.basis.now.items) (map row_view xs)
    (place_at c.deref-3.result.now) c.in_err-update_values.field-0.0)
    c.deref-2.ensures.value
    (subst (λ (b : List ℕ). IsValuesPast (map row_view c.args.given.now) b (map row_view c.deref-2.result.now)
    (place_at c.deref-3.result.now) c.in_err-update_values.field-0.0) (c.deref.ensures.value ∙ sb)
    c.in_err-update_values.ensures.past))) c.from_residual-in_err-update_values.ensures.1

pub returns-clause-kept : goal.returns-clause-kept
returns-clause-kept c =
    let r = c.requires.kept.ready in let t = c.requires.turn in
    let o = there (map row_view c.args.rows.now.items) c.args.basis.now.items [] c.args.out.at c.args.out.column (sym r.are_rows.count) t.stands in
    let tu : AreTurned (length c.args.places.now.items) c.args.out.at c.args.column o.0 (map row_view c.args.rows.now.items)
    (map row_view c.turn_rows.new.rows.items) c.in_ok-touched.touched.items =
    subst (λ (n : ℕ). AreTurned n c.args.out.at c.args.column o.0 (map row_view c.args.rows.now.items)
    (map row_view c.turn_rows.new.rows.items) c.in_ok-touched.touched.items) c.requires.columns
    (c.in_ok-touched.ensures.made o.0 o.1) in
    let ra = ready_after (map row_view c.args.given.now) (length c.args.places.now.items) c.args.basis.now.items
    (map row_view c.args.rows.now.items) (map row_view c.turn_rows.new.rows.items)
    c.args.out c.args.column o.0 r t o.1 tu.next in
    let sb = set_exchanged c.args.basis.now.items c.args.out.at c.args.out.column c.args.column r.different t.stands in
    let a = c.in_ok-update_values.ensures.values in
    record {
      ready = subst (λ (b : List ℕ). IsReady (map row_view c.args.given.now) (length c.args.places.now.items) b
          (map row_view c.turn_rows.new.rows.items)) (sym sb) ra;
      width = length-set c.args.places.now.items c.args.out.column _;
      are_values =
          subst (λ (ps : List ℤ). AreValues (slice_set c.args.basis.now.items c.args.out.at c.args.column)
          (map row_view c.turn_rows.new.rows.items) ps c.update_values.new.values.items) c.deref-3.ensures.value
          (subst (λ (xs : List (Vec (ℕ × ℤ) Global)). AreValues (slice_set c.args.basis.now.items c.args.out.at c.args.column)
          (map row_view xs) c.deref-3.result.now c.update_values.new.values.items)
          c.deref-2.ensures.value
          (subst (λ (b : List ℕ). AreValues b (map row_view c.deref-2.result.now) c.deref-3.result.now c.update_values.new.values.items)
          c.deref.ensures.value a));
    }

pub reseat-requires-clause-leaving : goal.reseat-requires-clause-leaving
reseat-requires-clause-leaving c =
    let h = in-list (length c.args.places.now.items) c.args.basis.now.items c.args.out.at c.args.out.column c.requires.kept.ready.in_range
    c.requires.turn.stands in
    let n = c.requires.seats.count in let m = c.requires.columns in omega arith

pub reseat-requires-clause-entering : goal.reseat-requires-clause-entering
reseat-requires-clause-entering c =
    let h = c.requires.turn.in_range in
    let n = c.requires.seats.count in let m = c.requires.columns in omega arith

pub returns-clause-seats : goal.returns-clause-seats
returns-clause-seats c =
    let r = c.requires.kept.ready in let t = c.requires.turn in let m = c.requires.columns in
    let h = in-list (length c.args.places.now.items) c.args.basis.now.items c.args.out.at c.args.out.column r.in_range t.stands in
    let i = t.in_range in
    subst (λ (s : List (Option ℕ)). AreSeats c.args.columns (slice_set c.args.basis.now.items c.args.out.at c.args.column) s)
    (sym c.reseat.ensures)
    (seats_after c.args.columns c.args.basis.now.items c.args.seats.now.items c.args.out.at c.args.out.column c.args.column
    r.different t.stands t.differ (omega arith) (omega arith) c.requires.seats)

pub returns-clause-basis : goal.returns-clause-basis
returns-clause-basis c = set_exchanged c.args.basis.now.items c.args.out.at c.args.out.column c.args.column c.requires.kept.ready.different
    c.requires.turn.stands
