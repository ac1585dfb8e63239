use Rattle.std.specs.Prelude.{ℕ, ◌≡◌, ◌≤◌, Some, false, length, slice_get}
use Rattle.proof_steps.specs.declared.Literal.{Literal}
use Rattle.sat_core.specs.Visiting.{CanStand}
use Rattle.sat_core.proofs.visiting.replacement.Given as goal

abbrev pub invariant-loop-i : goal.invariant-loop-i
invariant-loop-i l =
    (l.i ≤ length l.clause)
    × ((k : ℕ) (m : Literal) → l.i ≤ k → slice_get l.clause k ≡ Some m → CanStand l.assignment m l.other false)

abbrev pub decreases-loop-i : goal.decreases-loop-i
decreases-loop-i l = l.i
