use Rattle.std.proofs.Common.{◌≡◌, ◌++◌, drop, map}
use Rattle.lus_tree.specs.View.{contract_item_view}
use Rattle.lus_meaning.specs.Scene.{ghosts}
use Rattle.lus_order.specs.Streams.{params_view}
use Rattle.lus_order.proofs.streams.push_ghosts.Given as goal

abbrev pub invariant-loop-item : goal.invariant-loop-item
invariant-loop-item l = params_view l.params.items ++ ghosts (map contract_item_view (drop l.item-index l.items))
    ≡ params_view l.initial.params.items ++ ghosts (map contract_item_view l.items)
