use Rattle.bland_laws.proofs.Runs.{no_state_twice}
use Rattle.bland_laws.proofs.laws.no_state_twice.Goals as goal

pub returns : goal.returns
returns c = no_state_twice
