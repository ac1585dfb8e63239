use Rattle.std.proofs.Common.{◌≡◌, ◌++◌, drop, map, flat_map}
use Rattle.lus_tree.specs.View.{item_view}
use Rattle.lus_meaning.specs.NameFaults.{property_tags}
use Rattle.lus_types.specs.Labels.{labels_view}
use Rattle.lus_types.proofs.labels.properties_twice.Given as goal

-- what is there, followed by what is to come, is all
abbrev pub invariant-loop-item : goal.invariant-loop-item
invariant-loop-item l = labels_view l.labels.items ++ flat_map property_tags (map item_view (drop l.item-index l.items))
    ≡ flat_map property_tags (map item_view l.items)
