use Rattle.std.proofs.Common.{◌≡◌, ◌++◌, map, drop}
use Rattle.lus_tree.specs.View.{item_view}
use Rattle.lus_meaning.specs.Scene.{base}
use Rattle.lus_evaluation.specs.Part.{wholes}
use Rattle.lus_evaluation.specs.Turn.{property_texts}
use Rattle.evaluation_parts.specs.PartViews.{parts_view}
use Rattle.evaluation_parts.specs.Texts.{setting_view}
use Rattle.evaluation_parts.proofs.turn.push_properties.Given as goal

abbrev pub invariant-loop-item : goal.invariant-loop-item
invariant-loop-item l = parts_view l.all.items ++ wholes (setting_view l.setting) base (property_texts (map item_view (drop l.item-index l.items)))
    ≡ parts_view l.initial.all.items ++ wholes (setting_view l.setting) base (property_texts (map item_view l.items))
