use Rattle.std.proofs.Common.{◌≡◌, ◌++◌, ◌+◌, ◌*◌, drop, map}
use Rattle.lus_tree.specs.View.{contract_item_view, program_view}
use Rattle.lus_limits.specs.Calls.{call_view}
use Rattle.lus_properties.specs.Marks.{at_number, contract_marks, marks_below}
use Rattle.lus_properties.specs.Views.{property_view}
use Rattle.lus_properties.proofs.contract.+contract.Given as goal

abbrev pub decreases-callee_items : goal.decreases-callee_items
decreases-callee_items l = 3 * l.depth

abbrev pub decreases-push_contract : goal.decreases-push_contract
decreases-push_contract l = 3 * l.depth + 2

abbrev pub decreases-push_item : goal.decreases-push_item
decreases-push_item l = 3 * l.depth + 1

-- what is there, followed by what is to come, is all
abbrev pub invariant-push_contract-loop-item : goal.invariant-push_contract-loop-item
invariant-push_contract-loop-item l = map property_view l.properties.items
    ++ contract_marks l.kind (at_number (marks_below l.depth l.kind (program_view l.program)) (map call_view l.calls.items))
    (map contract_item_view (drop l.item-index l.item-items))
    ≡ map property_view l.initial.properties.items
    ++ contract_marks l.kind (at_number (marks_below l.depth l.kind (program_view l.program)) (map call_view l.calls.items))
    (map contract_item_view l.item-items)
