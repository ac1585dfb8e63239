use Rattle.row_laws.proofs.Ranks.{sources_have_ranks}
use Rattle.row_laws.proofs.laws.sources_have_ranks.Goals as goal

pub returns : goal.returns
returns c = sources_have_ranks
