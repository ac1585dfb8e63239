use Rattle.path_laws.proofs.Chains.{clock_chains_end}
use Rattle.path_laws.proofs.laws.clock_chains_end.Goals as goal

pub returns : goal.returns
returns c = clock_chains_end
