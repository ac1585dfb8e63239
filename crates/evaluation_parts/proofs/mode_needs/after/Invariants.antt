use Rattle.std.proofs.Common.{◌≡◌, [], map, drop}
use Rattle.lus_tree.specs.View.{contract_item_view}
use Rattle.lus_meaning.specs.Depends.{modes_after}
use Rattle.evaluation_parts.specs.Needed.{all_modes_view, imported, modes_needs_view}
use Rattle.evaluation_parts.specs.Views.{frame_instance}
use Rattle.evaluation_parts.proofs.mode_needs.after.Given as goal

abbrev pub invariant-loop-item : goal.invariant-loop-item
invariant-loop-item l = modes_after (frame_instance l.frame) (imported (all_modes_view l.called)) (modes_needs_view l.modes.items)
    (map contract_item_view (drop l.item-index l.items))
    ≡ modes_after (frame_instance l.frame) (imported (all_modes_view l.called)) [] (map contract_item_view l.items)
