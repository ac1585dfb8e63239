use Rattle.std.specs.Prelude.{take}
use Rattle.int_simplex.specs.Seating.{AreSeats}
use Rattle.int_simplex.proofs.seats.seated.Given as goal

abbrev pub invariant-loop-k : goal.invariant-loop-k
invariant-loop-k l = AreSeats l.columns (take l.k l.basis) l.seats.items
