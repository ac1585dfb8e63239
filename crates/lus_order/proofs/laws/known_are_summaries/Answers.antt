use Rattle.lus_order.proofs.Summarised.{known_summaries}
use Rattle.lus_order.proofs.laws.known_are_summaries.Goals as goal

pub returns : goal.returns
returns c = known_summaries
