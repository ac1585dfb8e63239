use Rattle.std.proofs.Common.{◌≡◌, ◌-◌, drop, map, length}
use Rattle.lus_limits.specs.Contracted.{summaries_seen}
use Rattle.lus_limits.specs.Frames.{frames_of}
use Rattle.lus_limits.specs.Measured.{size_view}
use Rattle.lus_limits.specs.Peaks.{greater}
use Rattle.lus_limits.specs.SizeCuts.{cut_term}
use Rattle.lus_limits.proofs.frame_size.frames.Given as goal

-- the greatest so far, with what is to come, is the greatest of all, cut
abbrev pub invariant-loop-i : goal.invariant-loop-i
invariant-loop-i l = (cut_term (size_view l.size) ≡ size_view l.size)
    × (cut_term (greater (size_view l.size) (frames_of (map (λ c. c.way) (drop l.i l.calls)) (summaries_seen (drop l.i l.links))))
    ≡ cut_term (frames_of (map (λ c. c.way) l.calls) (summaries_seen l.links)))

abbrev pub decreases-loop-i : goal.decreases-loop-i
decreases-loop-i l = length l.calls - l.i
