use Rattle.std.proofs.Common.{◌≡◌, ◌++◌, map, drop}
use Rattle.lus_tree.specs.View.{contract_item_view}
use Rattle.lus_meaning.specs.Scene.{ghosts}
use Rattle.evaluation_parts.specs.Needed.{needs_view}
use Rattle.evaluation_order.specs.Steps.{stream_needs}
use Rattle.evaluation_order.proofs.own_needs.push_ghost_streams.Given as goal

abbrev pub invariant-loop-item : goal.invariant-loop-item
invariant-loop-item l = needs_view l.needs.items ++ stream_needs l.name (ghosts (map contract_item_view (drop l.item-index l.items)))
    ≡ needs_view l.initial.needs.items ++ stream_needs l.name (ghosts (map contract_item_view l.items))
