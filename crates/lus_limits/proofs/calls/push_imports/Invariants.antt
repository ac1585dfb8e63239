use Rattle.std.proofs.Common.{◌≡◌, ◌++◌, drop, map, flat_map}
use Rattle.lus_tree.specs.View.{contract_item_view}
use Rattle.lus_limits.specs.Calls.{call_view, import_call}
use Rattle.lus_limits.proofs.calls.push_imports.Given as goal

-- what is there, followed by what is to come, is all
abbrev pub invariant-loop-item : goal.invariant-loop-item
invariant-loop-item l = map call_view l.calls.items ++ flat_map import_call (map contract_item_view (drop l.item-index l.items))
    ≡ map call_view l.initial.calls.items ++ flat_map import_call (map contract_item_view l.items)
