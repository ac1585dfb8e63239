use Rattle.std.specs.Prelude.{drop}
use Rattle.proof_checker.specs.Set.{IsCovered}
use Rattle.proof_checker.proofs.set.unmark_all.Given as goal

abbrev pub invariant-loop-literal : goal.invariant-loop-literal
invariant-loop-literal l = IsCovered l.flags.items l.atoms.items (drop l.literal-index l.trail)
