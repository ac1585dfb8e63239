use Rattle.std.specs.Prelude.{ℕ, List}
use Rattle.std.proofs.Common.{arith, subst}
use Rattle.std.proofs.lemmas.List.{take_all}
use Rattle.int_simplex.specs.Marks.{AreMarked}
use Rattle.int_simplex.proofs.Fresh.{marked_none, marked_more}
use Rattle.int_simplex.proofs.stale.mark.Goals as goal

pub loop-i-init : goal.loop-i-init
loop-i-init c = marked_none c.args.marks.now.items

pub index_mut-requires : goal.index_mut-requires
index_mut-requires c =
    let n = c.loop-i.invariant.count in let r = c.requires c.loop-i.i 0 c.loop-i-test.true in
    let k = c.loop-i.marks.ok.0 in omega arith

pub loop-i-preserved : goal.loop-i-preserved
loop-i-preserved c =
    let n = c.loop-i.invariant.count in let r = c.requires c.loop-i.i 0 c.loop-i-test.true in
    marked_more c.args.list.now c.args.marks.now.items c.loop-i.marks.items c.loop-i.i 0 c.loop-i-test.true (omega arith) c.loop-i.invariant

pub returns : goal.returns
returns c =
    let h = c.loop-i-test.false in
    subst (λ (xs : List ℕ). AreMarked xs c.args.marks.now.items c.loop-i.marks.items) (take_all c.loop-i.i c.args.list.now (omega arith))
    c.loop-i.invariant
