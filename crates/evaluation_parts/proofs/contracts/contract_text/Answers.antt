use Rattle.std.proofs.Common.{map}
use Rattle.lus_tree.specs.View.{contract_item_view}
use Rattle.evaluation_parts.specs.Conditions.{calls_view, joint_view, with_item, with_items}
use Rattle.evaluation_parts.specs.Views.{frame_instance}
use Rattle.evaluation_parts.proofs.ContractItems.{after_one}
use Rattle.evaluation_parts.proofs.Steps.{one_taken}
use Rattle.evaluation_parts.proofs.contracts.contract_text.Goals as goal

pub loop-item-preserved : goal.loop-item-preserved
loop-item-preserved c =
    one_taken (λ k z. with_item c.args.setting.now k (contract_item_view z))
    (λ k zs. with_items c.args.setting.now k (map contract_item_view zs))
    (λ k z zs. after_one (frame_instance c.args.setting.now.frame) c.args.setting.now.way.now (calls_view c.args.setting.now) k (contract_item_view z) (map contract_item_view zs))
    c.args.items.now c.loop-item.item-index c.item-item.result
    (joint_view c.loop-item.assumed.items c.loop-item.guaranteed.items c.loop-item.modes.items)
    (joint_view c.push_item.new.assumed.items c.push_item.new.guaranteed.items c.push_item.new.modes.items) _
    c.loop-item-test.true c.item-item.is c.loop-item.invariant c.in_ok-push_item.ensures
