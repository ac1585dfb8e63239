use Rattle.slot_rows.proofs.Agreed.{none_met, unmet_within}
use Rattle.slot_rows.proofs.laws.none_met.Goals as goal

pub returns-clause-rows : goal.returns-clause-rows
returns-clause-rows c = unmet_within

pub returns-clause-table : goal.returns-clause-table
returns-clause-table c = none_met
