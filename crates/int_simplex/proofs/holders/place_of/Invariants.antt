use Rattle.std.specs.Prelude.{ℕ, ◌≡◌, ◌<◌}
use Rattle.std.proofs.Common.{get_or}
use Rattle.int_simplex.proofs.holders.place_of.Given as goal

abbrev pub invariant-loop-at : goal.invariant-loop-at
invariant-loop-at l = (j : ℕ) → j < l.at → get_or l.list j 0 ≡ l.k → ⊥
