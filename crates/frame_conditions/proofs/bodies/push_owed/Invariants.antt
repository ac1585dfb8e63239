use Rattle.std.proofs.Common.{◌≡◌, ◌++◌, drop}
use Rattle.frame_conditions.specs.Conditioned.{owed}
use Rattle.frame_conditions.specs.Views.{resolutions_view}
use Rattle.frame_conditions.proofs.bodies.push_owed.Given as goal

-- what is there, and what is to come, is all
abbrev pub invariant-loop-assumption : goal.invariant-loop-assumption
invariant-loop-assumption l =
    resolutions_view l.resolutions.items ++ owed l.beat (resolutions_view (drop l.assumption-index l.assumes))
    ≡ resolutions_view l.initial.resolutions.items ++ owed l.beat (resolutions_view l.assumes)
