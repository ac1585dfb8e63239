use Rattle.std.proofs.Common.{◌≡◌, ◌+◌, ℕ, ap, ◌∙◌, arith}
use Rattle.lus_streams.specs.Clocks.{clock_seen}
use Rattle.lus_limits.specs.Measured.{passes, size_view}
use Rattle.lus_streams.specs.Names.{names_view}
use Rattle.lus_limits.proofs.presence.steps.Goals as goal

one_more : (d k : ℕ) → (d + 1) + k ≡ d + (k + 1)
one_more d k = omega arith

pub loop-stream-preserved : goal.loop-stream-preserved
loop-stream-preserved c = λ d.
    c.step-passing.ensures d ∙ c.loop-stream.invariant (d + 1)
    ∙ ap (λ k. passes k (names_view c.args.names) (clock_seen c.args.passing.clock) (size_view c.args.passing.size))
    (one_more d c.loop-stream._stream-index)
