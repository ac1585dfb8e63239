use Rattle.std.proofs.Common.{arith}
use Rattle.lus_tree.specs.View.{item_view}
use Rattle.lus_meaning.specs.NameFaults.{statement_faults}
use Rattle.lus_scopes.specs.Least.{least_view}
use Rattle.lus_scopes.specs.Scopes.{scope_view}
use Rattle.lus_scopes.proofs.Loops.{way_next, way_end_of_views}
use Rattle.lus_scopes.proofs.bodies.statements.Goals as goal

pub loop-item-preserved : goal.loop-item-preserved
loop-item-preserved c =
    way_next (λ x. statement_faults (scope_view c.args.scope.now) (item_view x)) c.args.items.now c.loop-item.item-index
    c.item-item.result (least_view c.args.least.now) (least_view c.loop-item.least) (least_view c.statement.new.least) (omega arith)
    c.item-item.is c.loop-item.invariant c.statement.ensures

pub returns : goal.returns
returns c =
    way_end_of_views (statement_faults (scope_view c.args.scope.now)) item_view c.args.items.now c.loop-item.item-index
    (least_view c.args.least.now) (least_view c.loop-item.least) (omega arith) c.loop-item.invariant
