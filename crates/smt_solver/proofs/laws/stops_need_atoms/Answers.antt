use Rattle.smt_solver.proofs.NeedRoom.{needed}
use Rattle.smt_solver.proofs.laws.stops_need_atoms.Goals as goal

pub returns : goal.returns
returns c = λ f budgets h. needed f budgets h
