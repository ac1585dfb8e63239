use Rattle.std.proofs.Common.{sym, subst, arith}
use Rattle.std.proofs.lemmas.Grind.{common_steps}
use Rattle.sat_core.specs.Watching.{CanWatch, IsWatching}
use Rattle.sat_core.proofs.Watched.{entered}
use Rattle.sat_core.proofs.Widening.{admits_next}
use Rattle.sat_core.proofs.variables.admit_all.Goals as goal

pub loop-clause-preserved : goal.loop-clause-preserved
loop-clause-preserved c =
    let w = subst (λ x. CanWatch x c.two_of-watched.result) c.as_slice.ensures c.two_of-watched.ensures in
    let k : IsWatching c.admit.new.clauses c.admit.new.watches =
    subst (λ x. IsWatching x c.admit.new.watches) (sym c.in_ok-admit.ensures.clauses)
    (entered c.loop-clause.clauses c.loop-clause.watches c.admit.new.watches _ c.loop-clause.invariant.2 _ w
    c.in_ok-admit.ensures.watching) in (
      grind (arith, common_steps, c.in_ok-admit.ensures.clauses, c.loop-clause.invariant.0),
      admits_next c.args.more.now c.loop-clause.clause-index _ _
          _ c.clause-item.result c.loop-clause-test.true c.clause-item.is c.in_ok-admit.ensures.variables c.loop-clause.invariant.1,
      k,
    )
