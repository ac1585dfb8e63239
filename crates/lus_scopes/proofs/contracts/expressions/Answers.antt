use Rattle.std.proofs.Common.{arith, refl}
use Rattle.lus_tree.specs.View.{expr_view}
use Rattle.lus_meaning.specs.Scene.{base}
use Rattle.lus_meaning.specs.Occurrences.{on_clock}
use Rattle.lus_meaning.specs.ExpressionFaults.{expression_faults}
use Rattle.lus_scopes.specs.Least.{least_view}
use Rattle.lus_scopes.specs.Scopes.{scope_view}
use Rattle.lus_scopes.proofs.Loops.{way_next, way_end_of_views}
use Rattle.lus_scopes.proofs.contracts.expressions.Goals as goal

pub loop-e-preserved : goal.loop-e-preserved
loop-e-preserved c =
    way_next (λ e. expression_faults (scope_view c.args.scope.now) (on_clock base) (expr_view e)) c.args.all.now c.loop-e.e-index
    c.e-item.result (least_view c.args.least.now) (least_view c.loop-e.least) (least_view c.expression.new.least) (omega arith)
    c.e-item.is c.loop-e.invariant (λ fs i. c.expression.ensures.least fs (on_clock base) refl i)

pub returns : goal.returns
returns c =
    way_end_of_views (expression_faults (scope_view c.args.scope.now) (on_clock base)) expr_view c.args.all.now c.loop-e.e-index
    (least_view c.args.least.now) (least_view c.loop-e.least) (omega arith) c.loop-e.invariant
