use Rattle.smt_solver.proofs.NeedRoom.{few-conflicts}
use Rattle.smt_solver.proofs.laws.flags_bound_conflicts.Goals as goal

pub returns : goal.returns
returns c = λ f budgets clauses pairs h t. few-conflicts f budgets h c.new_clauses_are_few.ensures clauses pairs t
