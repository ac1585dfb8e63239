use Rattle.std.proofs.Common.{◌≡◌, map, drop}
use Rattle.lus_tree.specs.View.{contract_item_view}
use Rattle.sys_texts.specs.Views.{sight_view}
use Rattle.sys_contracts.specs.Items.{contract_items, with_statements}
use Rattle.sys_contracts.specs.Views.{all_items_view, items_view}
use Rattle.sys_contracts.proofs.statements.contract_items.Given as goal

-- the items so far with the statements to come are all
abbrev pub invariant-loop-statement : goal.invariant-loop-statement
invariant-loop-statement l =
    with_statements (sight_view l.sight) (all_items_view l.called) (items_view l.items)
    (map contract_item_view (drop l.statement-index l.statements))
    ≡ contract_items (sight_view l.sight) (all_items_view l.called) (map contract_item_view l.statements)
