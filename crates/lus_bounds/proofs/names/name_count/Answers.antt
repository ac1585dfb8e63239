use Rattle.std.proofs.Common.{flat_map, length, ap, ◌∙◌}
use Rattle.lus_tree.specs.View.{definition_view, param_view}
use Rattle.lus_meaning.specs.Scope.{contract_statement_names}
use Rattle.lus_bounds.specs.Names.{cut_names}
use Rattle.lus_streams.specs.Owner.{owner_view}
use Rattle.lus_bounds.proofs.NameCounts.{many_seen, names_counted}
use Rattle.lus_bounds.proofs.names.name_count.Goals as goal

pub returns : goal.returns
returns c =
    names_counted (owner_view c.args.part) _ _ _ _ _ _ _ _ _
    (many_seen param_view c.inputs.result.now _ c.inputs.ensures)
    (many_seen param_view c.outputs.result.now _ c.outputs.ensures)
    (many_seen definition_view c.constants.result.now _ c.constants.ensures)
    (many_seen param_view c.locals.result.now _ c.locals.ensures)
    c.sum-own.ensures
    (c.contract_names.ensures ∙ ap (λ cs. cut_names (length (flat_map contract_statement_names cs))) c.contract.ensures)
    c.sum-inner.ensures c.sum.ensures c.sum-2.ensures
