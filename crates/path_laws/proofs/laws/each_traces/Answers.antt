use Rattle.path_laws.proofs.Main.{each_traces}
use Rattle.path_laws.proofs.laws.each_traces.Goals as goal

pub returns : goal.returns
returns c = each_traces
