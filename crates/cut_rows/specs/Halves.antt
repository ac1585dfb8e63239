-- Two columns that stand at one half.
use Rattle.std.specs.Prelude.{ℕ, true, false, [], ◌∷◌}
use lib.IntN.{pos, negsuc}
use Rattle.proof_steps.specs.View.{Inequality}
use Rattle.int_simplex.specs.State.{State}

-- `2*x0 - x2 = 0` and `2*x1 - x3 = 0`, with x2 and x3 at their lower bounds 1
abbrev pub halves : State
halves = record {
  given = ((0, pos 2) ∷ (2, negsuc 0) ∷ []) ∷ ((1, pos 2) ∷ (3, negsuc 0) ∷ []) ∷ [];
  columns = 4;
  basis = 0 ∷ 1 ∷ [];
  values = (pos 1, pos 2) ∷ (pos 1, pos 2) ∷ (pos 1, pos 1) ∷ (pos 1, pos 1) ∷ [];
  bounds =
      record { column = 2; upper = false; limit = pos 1; literal = 0 }
      ∷ record { column = 3; upper = false; limit = pos 1; literal = 1 }
      ∷ [];
  usable = true;
}

-- the column is at least 1, as `-x <= -1`
abbrev pub at_least_one : ℕ → Inequality
at_least_one c = record { terms = (c, negsuc 0) ∷ []; bound = negsuc 0 }
