use Rattle.std.specs.Prelude.{ℕ, ◌+◌, List, length}
use Rattle.std.proofs.Common.{arith, ap, ◌∙◌, sym, subst}
use Rattle.int_simplex.proofs.Touched.{all_below}
use Rattle.int_simplex.proofs.Fresh.{AreFound, found_more, found_same, found_all}
use Rattle.int_simplex.proofs.stale.marked.Goals as goal
use Rattle.int_simplex.proofs.stale.marked.Goals.{then-marks-k+in_ok-push, else-marks-k}

pub loop-k-preserved : goal.loop-k-preserved
loop-k-preserved c = elim c.if-marks-k.branch [
  | then-marks-k+in_ok-push w ↦
      subst (λ (xs : List ℕ). AreFound c.args.marks.now xs (c.loop-k.k + 1)) (sym (ap (λ v. v.items) w.places-is ∙ w.in_ok-push.ensures.items))
      (found_more c.args.marks.now c.loop-k.places.items c.loop-k.k c.loop-k-test.true c.loop-k.invariant)
  | else-marks-k w ↦
      subst (λ (xs : List ℕ). AreFound c.args.marks.now xs (c.loop-k.k + 1)) (sym (ap (λ v. v.items) w.places-is))
      (found_same c.args.marks.now c.loop-k.places.items c.loop-k.k w.if-marks-k.false c.loop-k.invariant)
]

pub returns-clause-within : goal.returns-clause-within
returns-clause-within c = all_below (length c.args.marks.now) c.loop-k.places.items c.loop-k.invariant.within

pub returns-clause-all : goal.returns-clause-all
returns-clause-all c = let h = c.loop-k-test.false in
    found_all c.args.marks.now c.loop-k.places.items c.loop-k.k (omega arith) c.loop-k.invariant
