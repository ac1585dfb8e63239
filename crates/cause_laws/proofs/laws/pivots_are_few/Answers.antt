use Rattle.cause_laws.proofs.Pivoted.{pivots-few}
use Rattle.cause_laws.proofs.laws.pivots_are_few.Goals as goal

pub returns : goal.returns
returns c = pivots-few
