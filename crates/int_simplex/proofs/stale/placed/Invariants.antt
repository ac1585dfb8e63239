use Rattle.std.specs.Prelude.{ℕ, ◌≡◌, List, length}
use Rattle.int_simplex.specs.Holding.{lists_of}
use Rattle.int_simplex.specs.Seating.{AreSeats}
use Rattle.int_simplex.specs.Marks.{ArePlaced}
use Rattle.int_simplex.proofs.stale.placed.Given as goal

abbrev pub invariant-loop-c : goal.invariant-loop-c
invariant-loop-c l = record {
  count : length l.stale.items ≡ l.count;
  width : length l.values.items ≡ length l.places;
  placed : (n : ℕ) (basis : List ℕ) → AreSeats n basis l.seats
      → ArePlaced basis (lists_of l.lists) l.places l.fn.values.items l.values.items l.stale.items l.c;
}
