use Rattle.sys_meaning.proofs.Truths.{truths_in_runs}
use Rattle.sys_meaning.proofs.laws.truths_in_runs.Goals as goal

pub returns : goal.returns
returns c = truths_in_runs
