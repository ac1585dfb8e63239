use Rattle.sight_laws.proofs.Stages.{calls_are_calls, sights_are_sights}
use Rattle.sight_laws.proofs.laws.sights_are_sights.Goals as goal

pub returns-clause-calls : goal.returns-clause-calls
returns-clause-calls c = calls_are_calls

pub returns-clause-sights : goal.returns-clause-sights
returns-clause-sights c = sights_are_sights c.constants_are_known.ensures.constants
