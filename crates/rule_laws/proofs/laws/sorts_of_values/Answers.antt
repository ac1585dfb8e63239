use Rattle.rule_laws.proofs.SortsOfModes.{sorts_of_values, sorts_of_modes}
use Rattle.rule_laws.proofs.laws.sorts_of_values.Goals as goal

pub returns-clause-values : goal.returns-clause-values
returns-clause-values c = sorts_of_values

pub returns-clause-modes : goal.returns-clause-modes
returns-clause-modes c = sorts_of_modes
