use Rattle.clock_laws.proofs.Made.{each_well_made}
use Rattle.clock_laws.proofs.RunLaws.{computed_runs}
use Rattle.clock_laws.proofs.laws.well_made.Goals as goal

pub returns-clause-made : goal.returns-clause-made
returns-clause-made c = each_well_made

pub returns-clause-computed : goal.returns-clause-computed
returns-clause-computed c = computed_runs
