use Rattle.std.proofs.Common.{false, true, ◌++◌}
use Rattle.lus_tree.specs.View.{expr_view}
use Rattle.lus_tree.specs.Reason.{type_clash}
use Rattle.lus_meaning.specs.Occurrences.{begin}
use Rattle.lus_meaning.specs.Scope.{type_of}
use Rattle.lus_meaning.specs.Faults.{if_so, differ}
use Rattle.lus_meaning.specs.ExpressionFaults.{definition_faults}
use Rattle.lus_scopes.specs.Least.{least_view}
use Rattle.lus_scopes.specs.Scopes.{scope_view}
use Rattle.lus_scopes.specs.Walk.{whole_walk}
use Rattle.lus_scopes.proofs.Walks.{definition_noted}
use Rattle.lus_scopes.proofs.Alike.{least_behind}
use Rattle.lus_scopes.proofs.Arms.{clash_behind}
use Rattle.lus_scopes.proofs.expression.definition.Goals as goal

pub returns-clause-least : goal.returns-clause-least
returns-clause-least c =
    λ fs i. least_behind (least_view c.args.least.now) (least_view c.note_if.new.self) fs
    (whole_walk (scope_view c.args.scope.now) false true (expr_view c.args.e.now) ++ if_so
    (differ c.args.sort (type_of (scope_view c.args.scope.now) (expr_view c.args.e.now))) type_clash (begin (expr_view c.args.e.now)))
    (definition_faults (scope_view c.args.scope.now) c.args.sort (expr_view c.args.e.now))
    (clash_behind (scope_view c.args.scope.now) c.args.sort (expr_view c.args.e.now) c.part-found.result c.differ.result
    (whole_walk (scope_view c.args.scope.now) false true (expr_view c.args.e.now)) (least_view c.args.least.now)
    (least_view c.part-found.new.least) (least_view c.note_if.new.self) c.part-found.ensures.part c.differ.ensures
    c.part-found.ensures.least c.note_if.ensures)
    (λ p. definition_noted p (scope_view c.args.scope.now) c.args.sort (expr_view c.args.e.now)) i
