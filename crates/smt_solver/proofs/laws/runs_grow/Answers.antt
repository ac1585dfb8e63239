use Rattle.smt_solver.proofs.Growing.{grown-run}
use Rattle.smt_solver.proofs.laws.runs_grow.Goals as goal

pub returns : goal.returns
returns c = λ s more h. grown-run s h more
