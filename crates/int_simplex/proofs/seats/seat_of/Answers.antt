use Rattle.std.proofs.Common.{arith}
use Rattle.int_simplex.proofs.Seating.{seat_past}
use Rattle.int_simplex.proofs.seats.seat_of.Goals as goal

pub returns-else-c-seats : goal.returns-else-c-seats
returns-else-c-seats c = λ n basis a. let h = c.if-c-seats.false in seat_past n c.args.column basis c.args.seats.now (omega arith) a
