use Rattle.smt_solver.proofs.Ending.{listed-of}
use Rattle.smt_solver.proofs.laws.listed_are_of_the_query.Goals as goal

pub returns : goal.returns
returns c = listed-of
