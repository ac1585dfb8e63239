use Rattle.condition_laws.proofs.ConditionsWithin.{conditions_stay_within}
use Rattle.condition_laws.proofs.laws.conditions_stay_within.Goals as goal

pub returns : goal.returns
returns c = conditions_stay_within
