use Rattle.lus_limits.proofs.Counts.{contract_by_text, properties_by_text, count_cuts, property_cuts}
use Rattle.lus_limits.proofs.laws.properties_by_text.Goals as goal

pub returns-clause-contracts : goal.returns-clause-contracts
returns-clause-contracts c = contract_by_text

pub returns-clause-properties : goal.returns-clause-properties
returns-clause-properties c = properties_by_text

pub returns-clause-counts : goal.returns-clause-counts
returns-clause-counts c = count_cuts

pub returns-clause-cuts : goal.returns-clause-cuts
returns-clause-cuts c = property_cuts
