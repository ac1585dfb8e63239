use Rattle.bland_laws.proofs.Runs.{runs_end}
use Rattle.bland_laws.proofs.laws.runs_end.Goals as goal

pub returns : goal.returns
returns c = runs_end
