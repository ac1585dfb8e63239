use Rattle.std.proofs.Common.{◌∙◌, ap, map, [], false, ◌++◌, arith}
use Rattle.lus_tree.specs.View.{program_view}
use Rattle.lus_meaning.specs.Scope.{entries_from, names_only}
use Rattle.lus_scopes.specs.Scopes.{layer_view, scope_view}
use Rattle.lus_types.specs.Homes.{declared_view}
use Rattle.lus_types.proofs.Ordered.{entries_next, layer_of}
use Rattle.lus_types.proofs.entries.push_entries.Goals as goal

pub loop-name-preserved : goal.loop-name-preserved
loop-name-preserved c =
    entries_next (program_view c.args.declarations.now) (layer_view c.args.outer false) c.args.names.now c.loop-name.name-index
    c.name-item.result c.loop-name.own c.push.new.self c.meant-meaning.result c.loop-name.order c.behind-order.result
    (entries_from (program_view c.args.declarations.now) (layer_view c.args.outer false) [] (map declared_view c.args.names.now))
    (scope_view c.names_only.result) (omega arith) c.name-item.is c.loop-name.invariant
    (c.names_only.ensures
    ∙ ap (λ es. names_only (program_view c.args.declarations.now) (es ++ layer_view c.args.outer false))
    (layer_of c.layer.result c.loop-name.own c.layer.ensures.entries c.layer.ensures.extent))
    c.meant-meaning.ensures c.in_ok-push.ensures.names c.behind-order.ensures
