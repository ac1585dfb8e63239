use Rattle.std.specs.Prelude.{ℕ, ◌≡◌, ◌≢◌, List, length, map}
use Rattle.std.proofs.Common.{◌∙◌, sym, subst, inl, inr, refl}
use Rattle.std.proofs.Common.{arith}
use Rattle.std.proofs.lemmas.List.{length-map}
use Rattle.std.specs.declared.vec.Vec.{Vec}
use Rattle.std.specs.declared.alloc.Global.{Global}
use lib.IntN.{ℤ, pos}
use Rattle.int_simplex.specs.Holding.{lists_of, IsHeld, AreListed}
use Rattle.int_simplex.proofs.Holding.{listed_set}
use Rattle.proof_steps.specs.View.{row_view}
use Rattle.proof_steps.specs.Rows.{entry}
use Rattle.int_simplex.specs.Sparse.{IsSparse}
use Rattle.int_simplex.specs.Crossing.{IsPivoted}
use Rattle.int_simplex.specs.Pivoting.{IsNextPast}
use Rattle.int_simplex.proofs.Places.{same_some}
use Rattle.int_simplex.proofs.Nexts.{row_there, set_mapped, turned_past, memory_turned}
use Rattle.int_simplex.proofs.pivoting.turn_row.Goals as goal

pub returns-then-k-at-clause-made : goal.returns-then-k-at-clause-made
returns-then-k-at-clause-made c = inl (refl, λ row e. inl c.if-k-at.true)

pub next_row-requires-clause-row : goal.next_row-requires-clause-row
next_row-requires-clause-row c =
    let e = row_there c.args.rows.now.items c.args.k c.index.result.now c.requires.in_range c.index.ensures in
    subst (λ (r : List (ℕ × ℤ)). IsSparse c.args.columns r) (sym c.deref.ensures.value) (c.requires.row c.index.result.now.items e)

pub returns-in_err-new-clause-past : goal.returns-in_err-new-clause-past
returns-in_err-new-clause-past c =
    let e = row_there c.args.rows.now.items c.args.k c.index.result.now c.requires.in_range c.index.ensures in
    turned_past c.args.at c.args.entering c.args.k (map row_view c.args.rows.now.items) c.index.result.now.items c.args.other.now
    c.in_err-new.field-0.0 c.from_residual.result
    e c.if-k-at.false
    (subst (λ (r : List (ℕ × ℤ)). entry r c.args.entering ≢ pos 0) c.deref.ensures.value c.in_err-new.ensures.crossed)
    (subst (λ (r : List (ℕ × ℤ)). IsNextPast c.args.entering c.args.other.now r c.in_err-new.field-0.0) c.deref.ensures.value c.in_err-new.ensures.past)
    c.from_residual.ensures.1

pub returns-in_ok-relist-in-Some-clause-made : goal.returns-in_ok-relist-in-Some-clause-made
returns-in_ok-relist-in-Some-clause-made c =
    let e = row_there c.args.rows.now.items c.args.k c.index.result.now c.requires.in_range c.index.ensures in
    let m = rw c.in-Some.is at c.in_ok-new.ensures.made in
    inr (
      c.index.result.now.items,
      c.in-Some.new.items,
      e,
      c.if-k-at.false,
      (subst (λ (r : List (ℕ × ℤ)). entry r c.args.entering ≢ pos 0) c.deref.ensures.value m.0),
      (subst (λ (r : List (ℕ × ℤ)). IsPivoted c.args.columns c.args.entering r c.args.other.now c.in-Some.new.items) c.deref.ensures.value m.1),
      set_mapped row_view c.args.rows.now.items c.args.k c.in-Some.new,
    )

pub relist-requires-clause-old : goal.relist-requires-clause-old
relist-requires-clause-old c =
    let e = row_there c.args.rows.now.items c.args.k c.index-in-Some.result.now c.requires.in_range c.index-in-Some.ensures in
    subst (λ (r : List (ℕ × ℤ)). IsSparse c.args.columns r) (sym c.deref-in-Some.ensures.value) (c.requires.row c.index-in-Some.result.now.items e)

pub relist-requires-clause-new : goal.relist-requires-clause-new
relist-requires-clause-new c =
    let m = rw c.in-Some.is at c.in_ok-new.ensures.made in
    subst (λ (r : List (ℕ × ℤ)). IsSparse c.args.columns r) (sym c.deref-in-Some-2.ensures.value) m.1.sparse

pub relist-requires-clause-count : goal.relist-requires-clause-count
relist-requires-clause-count c = sym (length-map c.args.lists.now.items (λ (v : Vec ℕ Global). v.items)) ∙ c.requires.listed.count

pub relist-requires-clause-held : goal.relist-requires-clause-held
relist-requires-clause-held c =
    let e = row_there c.args.rows.now.items c.args.k c.index-in-Some.result.now c.requires.in_range c.index-in-Some.ensures in
    subst (λ (r : List (ℕ × ℤ)). IsHeld (lists_of c.args.lists.now.items) c.args.k r) (sym c.deref-in-Some.ensures.value)
    (c.requires.listed.held c.args.k c.index-in-Some.result.now.items e)

pub returns-in_ok-relist-in-Some-clause-listed : goal.returns-in_ok-relist-in-Some-clause-listed
returns-in_ok-relist-in-Some-clause-listed c =
    let l : length (map row_view c.args.rows.now.items) ≡ length c.args.rows.now.items = length-map c.args.rows.now.items row_view in
    let h = c.requires.in_range in
    subst (λ (rows : List (List (ℕ × ℤ))). AreListed c.args.columns rows (lists_of c.relist.new.lists.items))
    (sym (set_mapped row_view c.args.rows.now.items c.args.k c.in-Some.new))
    (listed_set c.args.columns (map row_view c.args.rows.now.items) (lists_of c.args.lists.now.items) (lists_of c.relist.new.lists.items)
    c.args.k c.in-Some.new.items (omega arith) c.in_ok-relist-in-Some.ensures.only
    (subst (λ (r : List (ℕ × ℤ)). IsHeld (lists_of c.relist.new.lists.items) c.args.k r) c.deref-in-Some-2.ensures.value
    c.in_ok-relist-in-Some.ensures.held) c.requires.listed)

pub returns-in_err-relist-in-Some-clause-past : goal.returns-in_err-relist-in-Some-clause-past
returns-in_err-relist-in-Some-clause-past c =
    memory_turned c.args.at c.args.entering c.args.k c.args.other.now (map row_view c.args.rows.now.items)
    c.from_residual-in_err-relist-in-Some.result c.from_residual-in_err-relist-in-Some.ensures.1

pub returns-in-None-clause-made : goal.returns-in-None-clause-made
returns-in-None-clause-made c =
    let e = row_there c.args.rows.now.items c.args.k c.index.result.now c.requires.in_range c.index.ensures in
    inl (
      refl,
      λ row f. inr (subst (λ (r : List (ℕ × ℤ)). entry r c.args.entering ≡ pos 0)
          (c.deref.ensures.value ∙ same_some c.index.result.now.items row (sym e ∙ f)) (rw c.in-None.is at c.in_ok-new.ensures.made)),
    )
