use Rattle.sys_meaning.proofs.Whole.{runs_to_paths}
use Rattle.sys_meaning.proofs.laws.runs_to_paths.Goals as goal

pub returns : goal.returns
returns c = runs_to_paths
