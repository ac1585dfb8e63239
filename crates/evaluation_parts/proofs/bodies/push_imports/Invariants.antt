use Rattle.std.proofs.Common.{◌≡◌, ◌++◌, flat_map, map, drop}
use Rattle.lus_tree.specs.View.{contract_item_view}
use Rattle.lus_evaluation.specs.Frame.{import_parts}
use Rattle.evaluation_parts.specs.PartViews.{parts_view}
use Rattle.evaluation_parts.specs.Texts.{setting_view}
use Rattle.evaluation_parts.proofs.bodies.push_imports.Given as goal

abbrev pub invariant-loop-item : goal.invariant-loop-item
invariant-loop-item l = parts_view l.all.items
    ++ flat_map (import_parts (setting_view l.setting)) (map contract_item_view (drop l.item-index l.items))
    ≡ parts_view l.initial.all.items ++ flat_map (import_parts (setting_view l.setting)) (map contract_item_view l.items)
