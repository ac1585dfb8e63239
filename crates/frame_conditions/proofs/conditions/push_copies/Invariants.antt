use Rattle.std.proofs.Common.{◌≡◌, ◌++◌, drop}
use Rattle.frame_conditions.specs.Views.{resolutions_view}
use Rattle.frame_conditions.proofs.conditions.push_copies.Given as goal

-- what is there, and what is to come, is all
abbrev pub invariant-loop-resolution : goal.invariant-loop-resolution
invariant-loop-resolution l =
    resolutions_view l.resolutions.items ++ resolutions_view (drop l.resolution-index l.more)
    ≡ resolutions_view l.initial.resolutions.items ++ resolutions_view l.more
