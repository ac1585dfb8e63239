use Rattle.condition_laws.proofs.Counted.{each_property_has_a_resolution}
use Rattle.condition_laws.proofs.Runs.{properties_by_rows}
use Rattle.condition_laws.proofs.laws.properties_by_rows.Goals as goal

pub returns-clause-counted : goal.returns-clause-counted
returns-clause-counted c = each_property_has_a_resolution

pub returns-clause-values : goal.returns-clause-values
returns-clause-values c = properties_by_rows
