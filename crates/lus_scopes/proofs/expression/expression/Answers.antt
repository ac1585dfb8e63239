use Rattle.std.proofs.Common.{false}
use Rattle.lus_tree.specs.View.{expr_view}
use Rattle.lus_meaning.specs.ExpressionFaults.{expression_faults}
use Rattle.lus_scopes.specs.Least.{least_view}
use Rattle.lus_scopes.specs.Scopes.{scope_view}
use Rattle.lus_scopes.specs.Walk.{whole_walk}
use Rattle.lus_scopes.proofs.Walks.{expression_noted}
use Rattle.lus_scopes.proofs.Alike.{least_behind}
use Rattle.lus_scopes.proofs.expression.expression.Goals as goal

pub returns-clause-least : goal.returns-clause-least
returns-clause-least c =
    λ fs t w i. least_behind (least_view c.args.least.now) (least_view c.part.new.least) fs
    (whole_walk (scope_view c.args.scope.now) t.whole_side false (expr_view c.args.e.now))
    (expression_faults (scope_view c.args.scope.now) t (expr_view c.args.e.now))
    (rw w c.part.ensures.least) (λ p. expression_noted p (scope_view c.args.scope.now) t (expr_view c.args.e.now)) i
