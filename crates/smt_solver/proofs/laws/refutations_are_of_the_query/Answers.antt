use Rattle.smt_solver.proofs.Ending.{refuted-of}
use Rattle.smt_solver.proofs.laws.refutations_are_of_the_query.Goals as goal

pub returns : goal.returns
returns c = refuted-of
