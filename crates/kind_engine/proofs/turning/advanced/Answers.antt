use Rattle.std.proofs.Common.{take, sym, ◌∙◌}
use Rattle.board_core.proofs.Turns.{begins-take}
use Rattle.kind_engine.proofs.Histories.{decides-later}
use Rattle.kind_engine.proofs.turning.advanced.Goals as goal

pub returns-then-decided-clause-task : goal.returns-then-decided-clause-task
returns-then-decided-clause-task g c =
    let seen = g.B.BoardSeat.seen c.args.seat.now in
    let front = g.B.BoardSeat.front c.args.seat.now in
    decides-later c.args.property (take front seen) seen (begins-take front seen)
    (sym c.decided.ensures ∙ c.if-decided.true)
