use Rattle.std.proofs.Common.{◌≡◌, ◌++◌, drop, map}
use Rattle.lus_tree.specs.View.{item_view}
use Rattle.lus_properties.specs.Marks.{body_marks}
use Rattle.lus_properties.specs.Views.{property_view}
use Rattle.lus_properties.proofs.items.push_body.Given as goal

-- what is there, followed by what is to come, is all
abbrev pub invariant-loop-item : goal.invariant-loop-item
invariant-loop-item l = map property_view l.properties.items ++ body_marks (map item_view (drop l.item-index l.items))
    ≡ map property_view l.initial.properties.items ++ body_marks (map item_view l.items)
