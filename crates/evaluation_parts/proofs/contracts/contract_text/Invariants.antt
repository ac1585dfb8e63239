use Rattle.std.proofs.Common.{◌≡◌, [], map, drop}
use Rattle.lus_tree.specs.View.{contract_item_view}
use Rattle.lus_evaluation.specs.Frame.{contract_after}
use Rattle.evaluation_parts.specs.Conditions.{calls_view, joint_view, with_items}
use Rattle.evaluation_parts.specs.Views.{frame_instance}
use Rattle.evaluation_parts.proofs.contracts.contract_text.Given as goal

abbrev pub invariant-loop-item : goal.invariant-loop-item
invariant-loop-item l = with_items l.setting (joint_view l.assumed.items l.guaranteed.items l.modes.items)
    (map contract_item_view (drop l.item-index l.items))
    ≡ contract_after (frame_instance l.setting.frame) l.setting.way.now (calls_view l.setting) [] (map contract_item_view l.items)
