use Rattle.rule_laws.proofs.PropertiesTyped.{types_of_properties}
use Rattle.rule_laws.proofs.TypedModes.{types_of_values, types_in_runs, types_of_modes, types_of_contracts}
use Rattle.rule_laws.proofs.laws.types_of_values.Goals as goal

pub returns-clause-values : goal.returns-clause-values
returns-clause-values c = types_of_values

pub returns-clause-modes : goal.returns-clause-modes
returns-clause-modes c = types_of_modes

pub returns-clause-runs : goal.returns-clause-runs
returns-clause-runs c = types_in_runs

pub returns-clause-contracts : goal.returns-clause-contracts
returns-clause-contracts c = types_of_contracts

pub returns-clause-properties : goal.returns-clause-properties
returns-clause-properties c = types_of_properties
