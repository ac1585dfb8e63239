use Rattle.std.proofs.Common.{map, drop, ◌+◌, ◌++◌, ◌≡◌, subst, arith}
use Rattle.lus_tree.specs.declared.place.Param.{Param}
use Rattle.std.proofs.Common.{List}
use Rattle.lus_tree.specs.View.{definition_view, param_view}
use Rattle.lus_meaning.specs.Scope.{a_fixed, a_local, a_stream, interleaved}
use Rattle.lus_types.specs.Homes.{declared_view}
use Rattle.lus_types.proofs.Interleaved.{interleaved_step}
use Rattle.lus_scopes.proofs.Loops.{dropped}
use Rattle.lus_types.proofs.declared.push_interleaved.Goals as goal

pub loop-param-preserved : goal.loop-param-preserved
loop-param-preserved c =
    interleaved_step (map declared_view c.loop-param.names.items) (map declared_view c.push_local.new.names.items)
    (map a_fixed (map definition_view c.loop-param.rest.now)) (map a_fixed (map definition_view c.in_ok-rest.rest.now))
    (map (a_stream a_local) (map param_view (drop (c.loop-param.param-index + 1) c.args.params.now)))
    (map declared_view c.args.names.now.items
    ++ interleaved (map a_fixed (map definition_view c.args.definitions.now)) (map (a_stream a_local) (map param_view c.args.params.now)))
    (a_stream a_local (param_view c.param-item.result)) c.count_before-count.result
    (subst (λ (ps : List Param). map declared_view c.loop-param.names.items
    ++ interleaved (map a_fixed (map definition_view c.loop-param.rest.now)) (map (a_stream a_local) (map param_view ps))
    ≡ map declared_view c.args.names.now.items
    ++ interleaved (map a_fixed (map definition_view c.args.definitions.now)) (map (a_stream a_local) (map param_view c.args.params.now)))
    (dropped c.args.params.now c.loop-param.param-index c.param-item.result (omega arith) c.param-item.is) c.loop-param.invariant)
    c.count_before-count.ensures.count c.in_ok-rest.ensures.local c.in_ok-rest.ensures.rest
