use Rattle.smt_solver.proofs.Literals.{clauses-fit}
use Rattle.smt_solver.proofs.laws.clauses_fit_their_form.Goals as goal

pub returns : goal.returns
returns c = clauses-fit
