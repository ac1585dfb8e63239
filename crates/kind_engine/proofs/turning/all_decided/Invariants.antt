use Rattle.std.specs.Prelude.{ℕ, ◌<◌, take}
use Rattle.board_core.specs.Seats.{Decides}
use Rattle.kind_engine.proofs.turning.all_decided.Given as goal

-- those before are decided
abbrev pub invariant-loop-property : goal.invariant-loop-property
invariant-loop-property g l =
    (q : ℕ) → q < l.property → Decides (take (g.B.BoardSeat.front l.seat) (g.B.BoardSeat.seen l.seat)) q
