use Rattle.std.specs.Prelude.{◌≡◌, replicate, None}
use Rattle.int_simplex.proofs.seats.no_seats.Given as goal

abbrev pub invariant-loop-column : goal.invariant-loop-column
invariant-loop-column l = l.seats.items ≡ replicate l._column None
