use Rattle.std.specs.Prelude.{ℕ, take, map}
use Rattle.std.specs.List.Sorted.{IsStrictlyIncreasing}
use lib.IntN.{ℤ}
use Rattle.smt_solver.proofs.attempt.plain.are_in_order.Given as goal

abbrev pub invariant-loop-i : goal.invariant-loop-i
invariant-loop-i l = IsStrictlyIncreasing (map (λ (t : ℕ × ℤ). t.0) (take l.i l.terms))
