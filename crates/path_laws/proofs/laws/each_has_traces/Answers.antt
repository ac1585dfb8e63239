use Rattle.path_laws.proofs.Traces.{each_has_traces}
use Rattle.path_laws.proofs.laws.each_has_traces.Goals as goal

pub returns : goal.returns
returns c = each_has_traces
