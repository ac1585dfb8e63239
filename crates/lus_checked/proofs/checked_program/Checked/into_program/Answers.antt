use Rattle.std.proofs.Common.{None, subst, sym}
use Rattle.lus_meaning.specs.Refusals.{IsWithinLimits}
use Rattle.lus_checked.proofs.checked_program.Checked.into_program.Goals as goal

pub returns-clause-within : goal.returns-clause-within
returns-clause-within c = subst (λ p. IsWithinLimits p None) (sym c.into_program.ensures.same) c.self.invariant.within
