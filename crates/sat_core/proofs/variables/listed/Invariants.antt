use Rattle.std.specs.Prelude.{◌≡◌, drop}
use Rattle.proof_checker.specs.Derived.{has}
use Rattle.sat_core.proofs.variables.listed.Given as goal

abbrev pub invariant-loop-member : goal.invariant-loop-member
invariant-loop-member l = has (drop l.member-index l.literals) l.literal ≡ has l.fn.literals l.literal
