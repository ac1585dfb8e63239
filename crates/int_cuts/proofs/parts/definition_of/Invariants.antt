use Rattle.std.specs.Prelude.{ℕ, ◌≢◌, ◌<◌, ◌≡◌, List, map, Some, slice_get}
use lib.IntN.{ℤ}
use Rattle.proof_steps.specs.View.{row_view}
use Rattle.int_simplex.specs.Given.{last_column}
use Rattle.int_cuts.proofs.parts.definition_of.Given as goal

abbrev pub invariant-loop-k : goal.invariant-loop-k
invariant-loop-k l = (j : ℕ) (g : List (ℕ × ℤ)) → j < l.k → slice_get (map row_view l.given) j ≡ Some g → last_column g ≢ l.column
