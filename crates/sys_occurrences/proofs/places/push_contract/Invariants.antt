use Rattle.std.proofs.Common.{◌≡◌, ◌++◌, map, flat_map, drop}
use Rattle.lus_tree.specs.View.{contract_item_view}
use Rattle.lus_meaning.specs.Occurrences.{contract_statement_texts}
use Rattle.sys_occurrences.specs.Occurring.{placed}
use Rattle.sys_occurrences.specs.Views.{placed_view}
use Rattle.sys_occurrences.proofs.places.push_contract.Given as goal

-- what is there, and what is to come, is all
abbrev pub invariant-loop-item : goal.invariant-loop-item
invariant-loop-item l =
    map placed_view l.places.items ++ map placed (flat_map contract_statement_texts (map contract_item_view (drop l.item-index l.items)))
    ≡ map placed_view l.initial.places.items ++ map placed (flat_map contract_statement_texts (map contract_item_view l.items))
