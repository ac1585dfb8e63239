use Rattle.std.proofs.Common.{◌≡◌, ◌++◌, drop, map}
use Rattle.lus_tree.specs.View.{contract_item_view}
use Rattle.lus_meaning.specs.Scope.{mode_names}
use Rattle.lus_scopes.proofs.with_modes.push_modes.Given as goal

-- what is there, followed by what is to come, is all
abbrev pub invariant-loop-item : goal.invariant-loop-item
invariant-loop-item l = l.modes ++ mode_names (map contract_item_view (drop l.item-index l.items))
    ≡ l.initial.modes ++ mode_names (map contract_item_view l.items)
