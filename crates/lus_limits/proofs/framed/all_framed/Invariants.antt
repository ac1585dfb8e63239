use Rattle.std.proofs.Common.{◌≡◌, ◌++◌, drop, map}
use Rattle.lus_tree.specs.View.{program_view}
use Rattle.lus_meaning.specs.ClockFaults.{components}
use Rattle.lus_limits.specs.Framed.{frame_of, frame_view}
use Rattle.lus_limits.proofs.framed.all_framed.Given as goal

-- what is there, followed by what is to come, is all
abbrev pub invariant-loop-number : goal.invariant-loop-number
invariant-loop-number l = map frame_view l.frames.items ++ map (frame_of (program_view l.program)) (drop l.number (components (program_view l.program)))
    ≡ map (frame_of (program_view l.program)) (components (program_view l.program))
