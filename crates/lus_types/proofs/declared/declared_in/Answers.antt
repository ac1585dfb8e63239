use Rattle.std.proofs.Common.{map, ap}
use Rattle.lus_tree.specs.View.{contract_item_view, definition_view, param_view}
use Rattle.lus_scopes.specs.Scopes.{owner_view}
use Rattle.lus_types.specs.Homes.{declared_view}
use Rattle.lus_types.proofs.Interleaved.{declared_is}
use Rattle.lus_types.proofs.declared.declared_in.Goals as goal

pub returns : goal.returns
returns c =
    declared_is (owner_view c.args.owner) (map param_view c.inputs.result.now) (map param_view c.outputs.result.now)
    (map param_view c.locals.result.now) (map contract_item_view c.contract.result.now) (map definition_view c.constants.result.now)
    (map declared_view c.new-names.result.items) (map declared_view c.push_streams.new.names.items)
    (map declared_view c.push_streams-2.new.names.items) (map declared_view c.push_contract.new.names.items)
    (map declared_view c.push_interleaved.new.names.items) c.inputs.ensures c.outputs.ensures c.contract.ensures c.constants.ensures
    c.locals.ensures (ap (map declared_view) c.new-names.ensures.items) c.in_ok-push_streams.ensures c.in_ok-push_streams-2.ensures
    c.in_ok-push_contract.ensures c.in_ok-push_interleaved.ensures
