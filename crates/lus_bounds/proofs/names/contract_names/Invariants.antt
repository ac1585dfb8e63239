use Rattle.std.proofs.Common.{◌≡◌, ◌+◌, drop, flat_map, length, map}
use Rattle.lus_tree.specs.View.{contract_item_view}
use Rattle.lus_meaning.specs.Scope.{contract_statement_names}
use Rattle.lus_bounds.specs.Names.{cut_names}
use Rattle.lus_bounds.proofs.names.contract_names.Given as goal

-- what was counted, with what is to come, is all, cut
abbrev pub invariant-loop-item : goal.invariant-loop-item
invariant-loop-item l = (cut_names l.count ≡ l.count)
    × (cut_names (l.count + length (flat_map contract_statement_names (map contract_item_view (drop l.item-index l.items))))
    ≡ cut_names (length (flat_map contract_statement_names (map contract_item_view l.items))))
