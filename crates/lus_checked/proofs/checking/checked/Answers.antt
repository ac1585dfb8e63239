use Rattle.std.proofs.Common.{subst}
use Rattle.lus_meaning.specs.Refusals.{IsWithinLimits}
use Rattle.lus_bounds.specs.Passed.{name_seen}
use Rattle.lus_checked.proofs.checking.checked.Goals as goal

pub returns-in-Ok-clause-within : goal.returns-in-Ok-clause-within
returns-in-Ok-clause-within c = subst (λ p. IsWithinLimits p (name_seen c.args.main)) c.program.ensures.same c.in-Ok.ensures.within
