use Rattle.std.proofs.Common.{◌≡◌, ◌++◌, drop, map, flat_map}
use Rattle.lus_tree.specs.View.{contract_item_view}
use Rattle.lus_meaning.specs.Scope.{contract_statement_names}
use Rattle.lus_types.specs.Homes.{declared_view}
use Rattle.lus_types.proofs.declared.push_contract.Given as goal

-- what is there, followed by what is to come, is all
abbrev pub invariant-loop-item : goal.invariant-loop-item
invariant-loop-item l =
    map declared_view l.names.items ++ flat_map contract_statement_names (map contract_item_view (drop l.item-index l.items))
    ≡ map declared_view l.initial.names.items ++ flat_map contract_statement_names (map contract_item_view l.items)
