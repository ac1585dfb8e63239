use Rattle.std.specs.Prelude.{◌≡◌, ◌+◌, ◌-◌, reverse}
use Rattle.std.proofs.Common.{subst, arith}
use Rattle.sat_core.specs.Reduction.{IsReduced}
use Rattle.sat_core.proofs.Looked.{pinned_more}
use Rattle.sat_core.proofs.reduction.reduce.Goals as goal

pub loop-i-preserved : goal.loop-i-preserved
loop-i-preserved c =
    let t = c.loop-i-test.true in
    let b = c.loop-i.invariant.0 in
    let up : c.loop-i.i ≡ c.loop-i.i - 1 + 1 = omega arith in (
      omega arith,
      λ last r. c.in_ok-low.ensures.reduced c.args.from last (omega arith)
          (subst (λ x. IsReduced c.args.clauses.now c.args.trail.now c.args.marked.now c.args.from last c.loop-i.literals.items c.loop-i.low x
          (reverse c.loop-i.hints.items)) up (c.loop-i.invariant.1 last r)),
      pinned_more c.loop-i.invariant.2 c.in_ok-low.ensures.looks,
    )

pub returns-clause-reduced : goal.returns-clause-reduced
returns-clause-reduced c = let z : c.loop-i.i ≡ 0 = (let t = c.loop-i-test.false in omega arith) in
    λ last r. subst (λ x. IsReduced c.args.clauses.now c.args.trail.now c.args.marked.now c.args.from last
    c.loop-i.literals.items c.loop-i.low x
    (reverse c.loop-i.hints.items)) z (c.loop-i.invariant.1 last r)

pub returns-clause-looks : goal.returns-clause-looks
returns-clause-looks c = c.loop-i.invariant.2
