use Rattle.std.proofs.Common.{refl, map, flat_map}
use Rattle.lus_tree.specs.View.{contract_item_view}
use Rattle.lus_evaluation.specs.Frame.{import_parts}
use Rattle.evaluation_parts.specs.PartViews.{parts_view}
use Rattle.evaluation_parts.specs.Texts.{setting_view}
use Rattle.evaluation_parts.proofs.Steps.{one_added}
use Rattle.evaluation_parts.proofs.bodies.push_imports.Goals as goal

pub loop-item-preserved : goal.loop-item-preserved
loop-item-preserved c =
    one_added (λ z. import_parts (setting_view c.args.setting.now) (contract_item_view z)) (λ zs. flat_map (import_parts (setting_view c.args.setting.now)) (map contract_item_view zs))
    (λ z zs. refl) c.args.items.now c.loop-item.item-index c.item-item.result
    (parts_view c.loop-item.all.items)
    (parts_view c.push_import.new.all.items) _ c.loop-item-test.true c.item-item.is (c.loop-item.invariant)
    (c.in_ok-push_import.ensures)
