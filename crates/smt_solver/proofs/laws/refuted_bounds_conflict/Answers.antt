use Rattle.smt_solver.proofs.Conflicting.{conflict-of}
use Rattle.smt_solver.proofs.laws.refuted_bounds_conflict.Goals as goal

pub returns : goal.returns
returns c = conflict-of c.refutations_give_steps.ensures
