use Rattle.sat_core.proofs.Counting.{few}
use Rattle.sat_core.proofs.laws.fresh_clauses_are_few.Goals as goal

pub returns : goal.returns
returns c = λ variables clauses f. few variables clauses f
