use Rattle.std.proofs.Common.{◌≡◌, ◌++◌, map, drop}
use Rattle.lus_tree.specs.View.{named_view}
use Rattle.slot_values.specs.Resolution.{resolved_view}
use Rattle.sys_texts.specs.Views.{sight_view}
use Rattle.frame_sources.specs.Views.{all_asked_view}
use Rattle.frame_conditions.specs.Conditioned.{ensured}
use Rattle.frame_conditions.specs.Views.{resolutions_view}
use Rattle.frame_conditions.proofs.statements.push_ensured.Given as goal

-- what is there, and what is to come, is all
abbrev pub invariant-loop-named : goal.invariant-loop-named
invariant-loop-named l =
    resolutions_view l.resolutions.items
    ++ ensured (sight_view l.sight) (all_asked_view l.modes) (resolved_view l.asked) (map named_view (drop l.named-index l.labelled))
    ≡ resolutions_view l.initial.resolutions.items
    ++ ensured (sight_view l.sight) (all_asked_view l.modes) (resolved_view l.asked) (map named_view l.labelled)
