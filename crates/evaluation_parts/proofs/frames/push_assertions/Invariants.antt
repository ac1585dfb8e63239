use Rattle.std.proofs.Common.{◌≡◌, ◌++◌, map, drop}
use Rattle.lus_tree.specs.View.{item_view}
use Rattle.lus_meaning.specs.Property.{assertions}
use Rattle.lus_meaning.specs.Scene.{base}
use Rattle.lus_evaluation.specs.Part.{wholes}
use Rattle.evaluation_parts.specs.PartViews.{parts_view}
use Rattle.evaluation_parts.specs.Texts.{setting_view}
use Rattle.evaluation_parts.proofs.frames.push_assertions.Given as goal

abbrev pub invariant-loop-item : goal.invariant-loop-item
invariant-loop-item l = parts_view l.all.items ++ wholes (setting_view l.setting) base (assertions (map item_view (drop l.item-index l.items)))
    ≡ parts_view l.initial.all.items ++ wholes (setting_view l.setting) base (assertions (map item_view l.items))
