use Rattle.smt_solver.proofs.Rooms.{suffice}
use Rattle.smt_solver.proofs.laws.ranges_suffice.Goals as goal

pub returns : goal.returns
returns c = λ f low high budgets h. suffice f low high h c.new_clauses_are_few.ensures budgets
