use Rattle.lus_tree.specs.View.{item_view}
use Rattle.lus_meaning.specs.NameFaults.{statement_faults}
use Rattle.lus_scopes.specs.Least.{least_view}
use Rattle.lus_scopes.specs.Scopes.{scope_view}
use Rattle.lus_scopes.proofs.Loops.{OnTheWay}
use Rattle.lus_scopes.proofs.bodies.statements.Given as goal

abbrev pub invariant-loop-item : goal.invariant-loop-item
invariant-loop-item l =
    OnTheWay (λ x. statement_faults (scope_view l.scope) (item_view x)) l.items l.item-index (least_view l.initial.least) (least_view l.least)
