use Rattle.std.specs.Prelude.{◌≡◌, ℕ, List, length, map}
use Rattle.std.proofs.Common.{arith, subst, sym}
use Rattle.std.proofs.lemmas.List.{length-map}
use lib.IntN.{ℤ}
use Rattle.proof_steps.specs.View.{row_view}
use Rattle.int_simplex.specs.Sparse.{IsSparse}
use Rattle.int_simplex.specs.Holding.{lists_of, IsHeld}
use Rattle.int_simplex.proofs.Nexts.{row_there}
use Rattle.int_simplex.proofs.Holding.{listed_none, listed_more, listed_all}
use Rattle.int_simplex.proofs.holders.listed.Goals as goal

pub loop-k-init : goal.loop-k-init
loop-k-init c = listed_none c.args.columns (map row_view c.args.rows.now) (lists_of c.in_ok-lists.lists.items) c.in_ok-lists.ensures

pub relist-requires-clause-new : goal.relist-requires-clause-new
relist-requires-clause-new c =
    let e = row_there c.args.rows.now c.loop-k.k c.index-rows-k.result c.loop-k-test.true c.index-rows-k.is in
    subst (λ (r : List (ℕ × ℤ)). IsSparse c.args.columns r) (sym c.deref.ensures.value) (c.requires c.loop-k.k c.index-rows-k.result.items e)

pub loop-k-preserved : goal.loop-k-preserved
loop-k-preserved c =
    let e = row_there c.args.rows.now c.loop-k.k c.index-rows-k.result c.loop-k-test.true c.index-rows-k.is in
    listed_more c.args.columns (map row_view c.args.rows.now) (lists_of c.loop-k.lists.items) (lists_of c.relist.new.lists.items) c.loop-k.k
    c.index-rows-k.result.items e c.in_ok-relist.ensures.only
    (subst (λ (r : List (ℕ × ℤ)). IsHeld (lists_of c.relist.new.lists.items) c.loop-k.k r) c.deref.ensures.value c.in_ok-relist.ensures.held)
    c.loop-k.invariant

pub returns : goal.returns
returns c =
    let l : length (map row_view c.args.rows.now) ≡ length c.args.rows.now = length-map c.args.rows.now row_view in
    let h = c.loop-k-test.false in let k = c.loop-k.auto.k-end in
    listed_all c.args.columns (map row_view c.args.rows.now) (lists_of c.loop-k.lists.items) c.loop-k.k (omega arith) c.loop-k.invariant
