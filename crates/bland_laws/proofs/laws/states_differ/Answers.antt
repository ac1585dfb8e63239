use Rattle.bland_laws.proofs.Runs.{states_differ}
use Rattle.bland_laws.proofs.laws.states_differ.Goals as goal

pub returns : goal.returns
returns c = states_differ
