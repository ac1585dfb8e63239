use Rattle.lus_tree.specs.View.{expr_view}
use Rattle.lus_meaning.specs.Scene.{base}
use Rattle.lus_meaning.specs.Occurrences.{on_clock}
use Rattle.lus_meaning.specs.ExpressionFaults.{expression_faults}
use Rattle.lus_scopes.specs.Least.{least_view}
use Rattle.lus_scopes.specs.Scopes.{scope_view}
use Rattle.lus_scopes.proofs.Loops.{OnTheWay}
use Rattle.lus_scopes.proofs.contracts.expressions.Given as goal

abbrev pub invariant-loop-e : goal.invariant-loop-e
invariant-loop-e l =
    OnTheWay (λ e. expression_faults (scope_view l.scope) (on_clock base) (expr_view e)) l.all l.e-index (least_view l.initial.least) (least_view l.least)
