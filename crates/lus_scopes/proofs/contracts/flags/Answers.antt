use Rattle.std.proofs.Common.{arith}
use Rattle.lus_tree.specs.View.{named_view}
use Rattle.lus_meaning.specs.ExpressionFaults.{flag_faults}
use Rattle.lus_scopes.specs.Least.{least_view}
use Rattle.lus_scopes.specs.Scopes.{scope_view}
use Rattle.lus_scopes.proofs.Loops.{way_next, way_end_of_views}
use Rattle.lus_scopes.proofs.contracts.flags.Goals as goal

pub loop-named-preserved : goal.loop-named-preserved
loop-named-preserved c =
    way_next (λ n. flag_faults (scope_view c.args.scope.now) (named_view n).value) c.args.all.now c.loop-named.named-index
    c.named-item.result (least_view c.args.least.now) (least_view c.loop-named.least) (least_view c.flag.new.least) (omega arith)
    c.named-item.is c.loop-named.invariant c.flag.ensures

pub returns : goal.returns
returns c =
    way_end_of_views (λ n. flag_faults (scope_view c.args.scope.now) n.value) named_view c.args.all.now c.loop-named.named-index
    (least_view c.args.least.now) (least_view c.loop-named.least) (omega arith) c.loop-named.invariant
