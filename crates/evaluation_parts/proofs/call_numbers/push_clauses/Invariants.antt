use Rattle.std.proofs.Common.{◌≡◌, ◌++◌, flat_map, map, drop}
use Rattle.lus_tree.specs.View.{contract_item_view}
use Rattle.evaluation_parts.specs.CallNumbers.{clause_numbers}
use Rattle.evaluation_parts.proofs.call_numbers.push_clauses.Given as goal

abbrev pub invariant-loop-item : goal.invariant-loop-item
invariant-loop-item l = l.numbers.items ++ flat_map clause_numbers (map contract_item_view (drop l.item-index l.items))
    ≡ l.initial.numbers.items ++ flat_map clause_numbers (map contract_item_view l.items)
