use Rattle.within_laws.proofs.Instants.{instants_are_within, quiet_runs_stay_within}
use Rattle.within_laws.proofs.laws.instants_are_within.Goals as goal

pub returns-clause-within : goal.returns-clause-within
returns-clause-within c = instants_are_within

pub returns-clause-stays : goal.returns-clause-stays
returns-clause-stays c = quiet_runs_stay_within
