use Rattle.std.proofs.Common.{subst, None}
use Rattle.lus_meaning.specs.Refusals.{IsWithinLimits}
use Rattle.lus_checked.specs.Program.{Marked, tree_of}
use Rattle.lus_checked.proofs.checked_program.Checked.program.Goals as goal

pub returns-clause-within : goal.returns-clause-within
returns-clause-within c = subst (λ (m : Marked). IsWithinLimits (tree_of m) None) c.self.view_is c.self.invariant.within
