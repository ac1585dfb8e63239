use Rattle.std.proofs.Common.{◌≡◌, ◌++◌, map, drop}
use Rattle.frame_sources.specs.Modes.{imported_mode}
use Rattle.frame_sources.specs.Views.{all_asked_view}
use Rattle.frame_sources.proofs.contracts.push_modes.Given as goal

-- what is there, and what is to come, is all
abbrev pub invariant-loop-mode : goal.invariant-loop-mode
invariant-loop-mode l =
    all_asked_view l.modes.items ++ map (imported_mode l.contract) (all_asked_view (drop l.mode-index l.more))
    ≡ all_asked_view l.initial.modes.items ++ map (imported_mode l.contract) (all_asked_view l.more)
