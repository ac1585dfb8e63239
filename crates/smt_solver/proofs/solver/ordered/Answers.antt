use Rattle.std.proofs.Common.{◌∙◌}
use Rattle.cnf_maker.specs.View.{form_view}
use Rattle.smt_solver.specs.Kept.{solver_view}
use Rattle.smt_solver.specs.Run.{work_view}
use Rattle.smt_solver.proofs.Kept.{with-work}
use Rattle.smt_solver.proofs.solver.ordered.Goals as goal

pub returns-clause-kept : goal.returns-clause-kept
returns-clause-kept c =
    let further = c.in_ok-take_orders.ensures in
    with-work (form_view c.args.cnf) (solver_view c.in_ok-solver.solver) c.in_ok-solver.ensures.kept
    (work_view c.take_orders.new.work) further.form further.run further.variables

pub returns-clause-none : goal.returns-clause-none
returns-clause-none c = c.in_ok-take_orders.ensures.listed ∙ c.in_ok-solver.ensures.none
