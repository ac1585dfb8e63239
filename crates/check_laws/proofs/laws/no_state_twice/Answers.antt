use Rattle.check_laws.proofs.Checks.{state_once}
use Rattle.check_laws.proofs.laws.no_state_twice.Goals as goal

pub returns : goal.returns
returns c = state_once
