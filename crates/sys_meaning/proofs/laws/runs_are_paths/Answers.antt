use Rattle.sys_meaning.proofs.OneRun.{runs_are_paths}
use Rattle.sys_meaning.proofs.laws.runs_are_paths.Goals as goal

pub returns : goal.returns
returns c = runs_are_paths
