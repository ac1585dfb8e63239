use Rattle.sys_meaning.proofs.Traces.{trace_of_path}
use Rattle.sys_meaning.proofs.laws.traces_of_paths.Goals as goal

pub returns : goal.returns
returns c = trace_of_path
