use Rattle.std.specs.Prelude.{ℕ, ◌≡◌, ◌<◌, Some, slice_get}
use lib.IntN.{ℤ}
use Rattle.int_simplex.specs.Choosing.{Enters}
use Rattle.int_simplex.proofs.choosing.entering.Given as goal

abbrev pub invariant-loop-t : goal.invariant-loop-t
invariant-loop-t l = (k : ℕ) (u : ℕ × ℤ) → k < l.t-index → slice_get l.row k ≡ Some u → Enters l.row l.x l.side l.places l.lowers l.uppers u.0 → ⊥
