use Rattle.std.proofs.Common.{◌≡◌, ◌+◌, ℕ}
use Rattle.lus_streams.specs.Clocks.{clock_seen}
use Rattle.lus_limits.specs.Measured.{passes, size_view}
use Rattle.lus_streams.specs.Names.{names_view}
use Rattle.lus_limits.proofs.presence.steps.Given as goal

-- a step for each stream so far
abbrev pub invariant-loop-stream : goal.invariant-loop-stream
invariant-loop-stream l =
    (d : ℕ) → passes d (names_view l.names) (clock_seen l.passing.clock) (size_view l.passing.size)
    ≡ passes (d + l._stream-index) (names_view l.names) (clock_seen l.fn.passing.clock) (size_view l.fn.passing.size)
