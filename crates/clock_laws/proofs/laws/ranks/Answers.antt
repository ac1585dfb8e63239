use Rattle.clock_laws.proofs.RunLaws.{nothing_needs_itself, each_has_rank}
use Rattle.clock_laws.proofs.laws.ranks.Goals as goal

pub returns-clause-returns : goal.returns-clause-returns
returns-clause-returns c = nothing_needs_itself

pub returns-clause-ranked : goal.returns-clause-ranked
returns-clause-ranked c = each_has_rank
