use Rattle.std.proofs.Common.{arith, ◌∙◌}
use Rattle.lus_tree.specs.View.{contract_item_view}
use Rattle.lus_clocks.specs.Items.{contract_statement_walk}
use Rattle.lus_streams.specs.Names.{names_view}
use Rattle.lus_scopes.specs.Least.{least_view}
use Rattle.lus_clocks.proofs.Sides.{one_more}
use Rattle.lus_clocks.proofs.items.contract_items.Goals as goal

pub loop-item-preserved : goal.loop-item-preserved
loop-item-preserved c = one_more (contract_statement_walk (names_view c.args.names)) contract_item_view
    c.args.items.now c.loop-item.item-index c.item-item.result (least_view c.loop-item.least)
    (least_view c.contract_item.new.least) (omega arith) c.item-item.is c.contract_item.ensures ∙ c.loop-item.invariant
