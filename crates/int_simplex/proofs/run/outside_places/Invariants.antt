use Rattle.std.specs.Prelude.{ℕ, List, ◌≡◌, ◌++◌, drop}
use Rattle.int_simplex.specs.State.{outside_from}
use Rattle.int_simplex.specs.Seating.{AreSeats}
use Rattle.int_simplex.proofs.run.outside_places.Given as goal

abbrev pub invariant-loop-c : goal.invariant-loop-c
invariant-loop-c l =
    (n : ℕ) (basis : List ℕ) → AreSeats n basis l.seats
    → l.places.items ++ outside_from l.c (drop l.c l.values) basis ≡ outside_from 0 l.values basis
