use Rattle.std.specs.Prelude.{drop}
use Rattle.proof_checker.specs.Slots.{AreForgotten}
use Rattle.proof_checker.proofs.terms.forget_all.Given as goal

abbrev pub invariant-loop-i : goal.invariant-loop-i
invariant-loop-i l = AreForgotten l.slots.items (drop l.i l.terms)
