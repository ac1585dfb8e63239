use Rattle.std.proofs.Common.{subst, ◌∙◌}
use Rattle.line_laws.specs.PastSteps.{SumFits}
use Rattle.smt_solver.specs.Shares.{SharesFitOrPast, StepFitsOrPast}
use Rattle.smt_solver.proofs.Shares.{fits-there, step-fits}
use Rattle.smt_solver.proofs.Valued.{if-ok}
use Rattle.smt_solver.proofs.numbers.sums.step_past.Goals as goal

pub returns : goal.returns
returns c =
    if-ok (SharesFitOrPast c.args.atoms.now c.args.shares.now c.args.shares.now) (StepFitsOrPast c.args.atoms.now c.args.shares.now)
    c.atoms_past.result
    (λ o h. step-fits c.args.atoms.now c.args.shares.now o
    (subst SumFits (c.deref.ensures.value ∙ c.in_ok-limits.ensures) (fits-there _ c.sum_past.result c.in-None.is c.sum_past.ensures)) h)
    c.atoms_past.ensures
