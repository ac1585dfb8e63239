use Rattle.std.proofs.Common.{◌≡◌, ◌++◌, drop, map, flat_map}
use Rattle.lus_tree.specs.View.{contract_item_view}
use Rattle.lus_types.specs.Called.{contract_sides}
use Rattle.lus_types.specs.Sides.{sides_view}
use Rattle.lus_types.proofs.sides.push_contract.Given as goal

-- what is there, followed by what is to come, is all
abbrev pub invariant-loop-item : goal.invariant-loop-item
invariant-loop-item l = sides_view l.sides.items ++ flat_map contract_sides (map contract_item_view (drop l.item-index l.items))
    ≡ sides_view l.initial.sides.items ++ flat_map contract_sides (map contract_item_view l.items)
