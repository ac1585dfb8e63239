use Rattle.sys_meaning.proofs.OneRun.{paths_to_runs}
use Rattle.sys_meaning.proofs.laws.paths_to_runs.Goals as goal

pub returns : goal.returns
returns c = paths_to_runs
