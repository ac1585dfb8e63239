use Rattle.std.specs.Prelude.{◌≡◌, take}
use Rattle.int_simplex.specs.Valued.{place_at, rest_in}
use Rattle.int_simplex.proofs.values.rest.Given as goal

abbrev pub invariant-loop-t : goal.invariant-loop-t
invariant-loop-t l = l.sum ≡ rest_in l.x (place_at l.places) (take l.t-index l.row)
