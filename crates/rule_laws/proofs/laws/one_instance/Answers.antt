use Rattle.rule_laws.proofs.Covered.{one_instance, found_declared}
use Rattle.rule_laws.proofs.laws.one_instance.Goals as goal

pub returns-clause-same : goal.returns-clause-same
returns-clause-same c = one_instance

pub returns-clause-declared : goal.returns-clause-declared
returns-clause-declared c = found_declared
