use Rattle.std.proofs.Common.{arith, map}
use Rattle.lus_tree.specs.View.{contract_item_view}
use Rattle.lus_meaning.specs.Scope.{contract_statement_names}
use Rattle.lus_types.specs.Homes.{declared_view}
use Rattle.lus_types.proofs.Steps.{one_given}
use Rattle.lus_types.proofs.declared.push_contract.Goals as goal

pub loop-item-preserved : goal.loop-item-preserved
loop-item-preserved c =
    one_given contract_statement_names contract_item_view c.args.items.now c.loop-item.item-index c.item-item.result (map declared_view c.loop-item.names.items)
    (map declared_view c.push_contract_item.new.names.items) _ (omega arith) c.item-item.is c.loop-item.invariant c.in_ok-push_contract_item.ensures
