use Rattle.std.specs.Prelude.{ℕ, List}
use Rattle.int_simplex.specs.Seating.{AreSeats}
use Rattle.int_simplex.proofs.Starts.{AreFirstTo}
use Rattle.int_simplex.proofs.run.first_places.Given as goal

abbrev pub invariant-loop-c : goal.invariant-loop-c
invariant-loop-c l = (n : ℕ) (basis : List ℕ) → AreSeats n basis l.seats → AreFirstTo basis l.values l.lowers l.uppers l.places.items l.c
