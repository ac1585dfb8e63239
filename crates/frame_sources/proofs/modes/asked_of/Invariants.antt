use Rattle.std.proofs.Common.{◌≡◌, option_map, drop}
use Rattle.frame_sources.specs.Resolved.{asked_of}
use Rattle.frame_sources.specs.Views.{all_asked_view}
use Rattle.frame_sources.proofs.modes.asked_of.Given as goal

-- none was of that name so far
abbrev pub invariant-loop-entry : goal.invariant-loop-entry
invariant-loop-entry l =
    asked_of (all_asked_view (drop l.entry-index l.modes)) (option_map (λ c. c.now) l.contract) l.mode
    ≡ asked_of (all_asked_view l.modes) (option_map (λ c. c.now) l.contract) l.mode
