use Rattle.std.proofs.Common.{◌≡◌, ◌++◌, flat_map, map, drop}
use Rattle.lus_tree.specs.View.{item_view}
use Rattle.evaluation_parts.specs.CallNumbers.{statement_numbers}
use Rattle.evaluation_parts.proofs.call_numbers.push_statements.Given as goal

abbrev pub invariant-loop-item : goal.invariant-loop-item
invariant-loop-item l = l.numbers.items ++ flat_map statement_numbers (map item_view (drop l.item-index l.items))
    ≡ l.initial.numbers.items ++ flat_map statement_numbers (map item_view l.items)
