use Rattle.smt_solver.proofs.Booleans.{no-atoms}
use Rattle.smt_solver.proofs.laws.boolean_queries_have_no_atoms.Goals as goal

pub returns : goal.returns
returns c = no-atoms
