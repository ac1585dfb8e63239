use Rattle.std.specs.Prelude.{◌≡◌, All, take, true}
use Rattle.proof_checker.specs.Derived.{has}
use Rattle.sat_core.specs.Trail.{falses}
use Rattle.sat_core.proofs.placing.first_open.Given as goal

abbrev pub invariant-loop-literal : goal.invariant-loop-literal
invariant-loop-literal l = All (λ m. has (falses l.assignment) m ≡ true) (take l.literal-index l.clause)
