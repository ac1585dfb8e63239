use Rattle.std.specs.Prelude.{Contains, ◌≡◌, ◌<◌, true, length, ℕ, map, Some, slice_get, List}
use Rattle.std.proofs.Common.{ap, ◌∙◌, sym, subst, arith, refl}
use Rattle.std.proofs.lemmas.List.{length-map}
use Rattle.std.proofs.lemmas.Option.{slice_get_read, slice_get_within}
use lib.IntN.{ℤ}
use Rattle.proof_steps.specs.View.{row_view}
use Rattle.int_simplex.specs.State.{State}
use Rattle.int_simplex.specs.Sound.{IsRowIn}
use Rattle.int_simplex.specs.Seating.{AreSeats}
use Rattle.int_simplex.proofs.Places.{mapped_at}
use Rattle.int_simplex.specs.Given.{IsInOrder, IsWithin}
use Rattle.int_simplex.proofs.Kept.{row_in}
use Rattle.int_simplex.proofs.Nexts.{row_there}
use Rattle.int_simplex.specs.Given.{HasNoZero}
use Rattle.int_simplex.proofs.Sparse.{sparse_in_order, sparse_within, sparse_no_zero}
use Rattle.int_simplex.proofs.table.Tableau.row.Goals as goal

pub index-requires : goal.index-requires
index-requires c =
    let u : c.self.inside.usable ≡ true = ap (λ s. s.usable) c.self.view_is ∙ c.requires in
    let a = c.self.invariant.rows u in
    let p : slice_get c.self.inside.basis.items c.in-Some.k ≡ Some c.args.column =
    c.in-Some.ensures c.self.inside.columns c.self.inside.basis.items (subst (AreSeats c.self.inside.columns c.self.inside.basis.items)
    (sym c.deref.ensures.value) (c.self.invariant.seats u)) in
    let n : length c.self.inside.rows.items ≡ length c.self.inside.basis.items = sym (length-map c.self.inside.rows.items row_view) ∙ a.count in
    let h : c.in-Some.k < length c.self.inside.basis.items = slice_get_within c.self.inside.basis.items c.in-Some.k c.args.column p in
    let k = c.self.inside.rows.ok.0 in omega arith

pub returns-in-None-clause-row : goal.returns-in-None-clause-row
returns-in-None-clause-row c =
    let u : c.self.inside.usable ≡ true = ap (λ s. s.usable) c.self.view_is ∙ c.requires in
    subst (λ (s : State). Contains s.basis c.args.column → ⊥) c.self.view_is
    (c.in-None.ensures c.self.inside.columns c.self.inside.basis.items (subst (AreSeats c.self.inside.columns c.self.inside.basis.items)
    (sym c.deref.ensures.value) (c.self.invariant.seats u)))

pub returns-in-Some-clause-row : goal.returns-in-Some-clause-row
returns-in-Some-clause-row c =
    let u : c.self.inside.usable ≡ true = ap (λ s. s.usable) c.self.view_is ∙ c.requires in
    let a = c.self.invariant.rows u in
    let p : slice_get c.self.inside.basis.items c.in-Some.k ≡ Some c.args.column =
    c.in-Some.ensures c.self.inside.columns c.self.inside.basis.items (subst (AreSeats c.self.inside.columns c.self.inside.basis.items)
    (sym c.deref.ensures.value) (c.self.invariant.seats u)) in
    let n : length c.self.inside.rows.items ≡ length c.self.inside.basis.items = sym (length-map c.self.inside.rows.items row_view) ∙ a.count in
    let h : c.in-Some.k < length c.self.inside.basis.items = slice_get_within c.self.inside.basis.items c.in-Some.k c.args.column p in
    let r : slice_get c.self.inside.rows.items c.in-Some.k ≡ Some c.index.result.now =
    slice_get_read c.self.inside.rows.items (length c.self.inside.rows.items) c.in-Some.k c.index.result.now refl (omega arith) c.index.ensures in
    let k = row_in (map row_view c.self.inside.given.items) c.self.inside.columns c.self.inside.basis.items (map row_view c.self.inside.rows.items)
    c.in-Some.k c.args.column (row_view c.index.result.now) a p (mapped_at row_view c.self.inside.rows.items c.in-Some.k c.index.result.now r) in
    subst (λ (s : State). IsRowIn s.given s.basis c.args.column c.deref-in-Some.result.now) c.self.view_is
    (subst (λ (r : List (ℕ × ℤ)). IsRowIn (map row_view c.self.inside.given.items) c.self.inside.basis.items c.args.column r)
    (sym c.deref-in-Some.ensures.value) k)

pub returns-in-Some-clause-in_order : goal.returns-in-Some-clause-in_order
returns-in-Some-clause-in_order c =
    let u : c.self.inside.usable ≡ true = ap (λ s. s.usable) c.self.view_is ∙ c.requires in
    let a = c.self.invariant.rows u in
    let p : slice_get c.self.inside.basis.items c.in-Some.k ≡ Some c.args.column =
    c.in-Some.ensures c.self.inside.columns c.self.inside.basis.items (subst (AreSeats c.self.inside.columns c.self.inside.basis.items)
    (sym c.deref.ensures.value) (c.self.invariant.seats u)) in
    let n : length c.self.inside.rows.items ≡ length c.self.inside.basis.items = sym (length-map c.self.inside.rows.items row_view) ∙ a.count in
    let h : c.in-Some.k < length c.self.inside.basis.items = slice_get_within c.self.inside.basis.items c.in-Some.k c.args.column p in
    let f = a.sparse c.in-Some.k (row_view c.index.result.now) (row_there c.self.inside.rows.items c.in-Some.k c.index.result.now
    (omega arith) c.index.ensures) in
    subst IsInOrder (sym c.deref-in-Some.ensures.value) (sparse_in_order 0 c.self.inside.columns (row_view c.index.result.now) f)

pub returns-in-Some-clause-in_range : goal.returns-in-Some-clause-in_range
returns-in-Some-clause-in_range c =
    let u : c.self.inside.usable ≡ true = ap (λ s. s.usable) c.self.view_is ∙ c.requires in
    let m : c.self.inside.columns ≡ c.args.self.now.columns = ap (λ s. s.columns) c.self.view_is in
    let a = c.self.invariant.rows u in
    let p : slice_get c.self.inside.basis.items c.in-Some.k ≡ Some c.args.column =
    c.in-Some.ensures c.self.inside.columns c.self.inside.basis.items (subst (AreSeats c.self.inside.columns c.self.inside.basis.items)
    (sym c.deref.ensures.value) (c.self.invariant.seats u)) in
    let n : length c.self.inside.rows.items ≡ length c.self.inside.basis.items = sym (length-map c.self.inside.rows.items row_view) ∙ a.count in
    let h : c.in-Some.k < length c.self.inside.basis.items = slice_get_within c.self.inside.basis.items c.in-Some.k c.args.column p in
    let f = a.sparse c.in-Some.k (row_view c.index.result.now) (row_there c.self.inside.rows.items c.in-Some.k c.index.result.now
    (omega arith) c.index.ensures) in
    subst (λ (k : ℕ). IsWithin k c.deref-in-Some.result.now) m
    (subst (IsWithin c.self.inside.columns) (sym c.deref-in-Some.ensures.value) (sparse_within 0 c.self.inside.columns (row_view c.index.result.now) f))

pub returns-in-Some-clause-entries : goal.returns-in-Some-clause-entries
returns-in-Some-clause-entries c =
    let u : c.self.inside.usable ≡ true = ap (λ s. s.usable) c.self.view_is ∙ c.requires in
    let a = c.self.invariant.rows u in
    let p : slice_get c.self.inside.basis.items c.in-Some.k ≡ Some c.args.column =
    c.in-Some.ensures c.self.inside.columns c.self.inside.basis.items (subst (AreSeats c.self.inside.columns c.self.inside.basis.items)
    (sym c.deref.ensures.value) (c.self.invariant.seats u)) in
    let n : length c.self.inside.rows.items ≡ length c.self.inside.basis.items = sym (length-map c.self.inside.rows.items row_view) ∙ a.count in
    let h : c.in-Some.k < length c.self.inside.basis.items = slice_get_within c.self.inside.basis.items c.in-Some.k c.args.column p in
    let f = a.sparse c.in-Some.k (row_view c.index.result.now) (row_there c.self.inside.rows.items c.in-Some.k c.index.result.now
    (omega arith) c.index.ensures) in
    subst HasNoZero (sym c.deref-in-Some.ensures.value) (sparse_no_zero 0 c.self.inside.columns (row_view c.index.result.now) f)
