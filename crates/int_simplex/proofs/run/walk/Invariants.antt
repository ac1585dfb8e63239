use Rattle.std.specs.Prelude.{List, length, map}
use lib.IntN.{ℤ}
use Rattle.proof_steps.specs.View.{row_view}
use Rattle.int_simplex.specs.State.{Standing}
use Rattle.int_simplex.specs.Holding.{lists_of, AreListed}
use Rattle.int_simplex.specs.Seating.{AreSeats}
use Rattle.int_simplex.specs.Running.{IsKept, AreTables, ArePlacesOf, AreLimitsOf, at}
use Rattle.int_simplex.proofs.Walks.{IsOnWay}
use Rattle.int_simplex.proofs.run.walk.Given as goal

abbrev pub invariant-loop-farkas : goal.invariant-loop-farkas
invariant-loop-farkas l = record {
  kept : IsKept (map row_view l.given) (length l.lowers) l.basis.items (map row_view l.rows.items) l.places.items l.values.items;
  listed : AreListed l.columns (map row_view l.rows.items) (lists_of l.lists.items);
  seats : AreSeats l.columns l.basis.items l.seats.items;
  way : (bounds : List Standing) → AreTables (length l.lowers) bounds l.lowers l.uppers
      → IsOnWay (map row_view l.given) (length l.lowers) bounds l.fn.pivots l.left (at l.fn.basis.items l.fn.places.items) (at l.basis.items l.places.items);
  allowed : (numbers : List ℤ) → ArePlacesOf numbers l.fn.places.items → AreLimitsOf numbers l.lowers l.uppers → ArePlacesOf numbers l.places.items;
}

abbrev pub decreases-loop-farkas : goal.decreases-loop-farkas
decreases-loop-farkas l = l.left
