use Rattle.std.proofs.Common.{◌≡◌, ◌++◌, map, drop}
use Rattle.lus_tree.specs.View.{item_view}
use Rattle.sys_texts.specs.Views.{sight_view}
use Rattle.frame_sources.specs.Views.{all_asked_view}
use Rattle.frame_conditions.specs.Conditioned.{properties_by}
use Rattle.frame_conditions.specs.Views.{resolutions_view}
use Rattle.frame_conditions.proofs.bodies.push_properties.Given as goal

-- what is there, and what is to come, is all
abbrev pub invariant-loop-item : goal.invariant-loop-item
invariant-loop-item l =
    resolutions_view l.resolutions.items ++ properties_by (sight_view l.sight) (all_asked_view l.modes) (map item_view (drop l.item-index l.items))
    ≡ resolutions_view l.initial.resolutions.items ++ properties_by (sight_view l.sight) (all_asked_view l.modes) (map item_view l.items)
