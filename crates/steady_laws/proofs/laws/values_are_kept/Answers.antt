use Rattle.steady_laws.proofs.Declarations.{defaults_in_order}
use Rattle.steady_laws.proofs.Kept.{values_are_kept, folded_is_known, first_is_held}
use Rattle.steady_laws.proofs.laws.values_are_kept.Goals as goal

pub returns-clause-values : goal.returns-clause-values
returns-clause-values c = values_are_kept

pub returns-clause-folded : goal.returns-clause-folded
returns-clause-folded c = folded_is_known

pub returns-clause-defaults : goal.returns-clause-defaults
returns-clause-defaults c = defaults_in_order

pub returns-clause-first : goal.returns-clause-first
returns-clause-first c = first_is_held
