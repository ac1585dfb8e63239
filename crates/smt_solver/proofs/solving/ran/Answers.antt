use Rattle.std.proofs.Common.{subst, sym}
use Rattle.proof_steps.specs.Rows.{Form}
use Rattle.sys_terms.specs.View.{query_view}
use Rattle.cnf_maker.specs.View.{form_view}
use Rattle.smt_solver.specs.Kept.{IsKept, IsEnd, solver_view}
use Rattle.smt_solver.proofs.Answering.{small-form}
use Rattle.smt_solver.proofs.Kept.{own}
use Rattle.smt_solver.proofs.solving.ran.Goals as goal

pub ordered-requires-clause-fit : goal.ordered-requires-clause-fit
ordered-requires-clause-fit c =
    c.clauses_fit_their_form.ensures (query_view c.args.query.now) c.requires.fit (form_view c.args.cnf) c.requires.form

pub ordered-requires-clause-plain : goal.ordered-requires-clause-plain
ordered-requires-clause-plain c =
    (small-form (query_view c.args.query.now) c.requires.small (form_view c.args.cnf) c.requires.form).0

pub ordered-requires-clause-small : goal.ordered-requires-clause-small
ordered-requires-clause-small c =
    (small-form (query_view c.args.query.now) c.requires.small (form_view c.args.cnf) c.requires.form).1

pub run-requires-clause-kept : goal.run-requires-clause-kept
run-requires-clause-kept c =
    let f : Form = form_view c.args.cnf in
    let s = solver_view c.in_ok-solver.solver in
    subst (λ g. IsKept g s) (sym (own f s c.in_ok-solver.ensures.kept)) c.in_ok-solver.ensures.kept

pub ended-requires-clause-ended : goal.ended-requires-clause-ended
ended-requires-clause-ended c =
    let f : Form = form_view c.args.cnf in
    let s = solver_view c.in_ok-solver.solver in
    record {
      form = f;
      is_form = c.requires.form;
      is_end = subst (λ g. IsEnd g c.args.budgets (solver_view c.run.new.solver) c.in_ok-end.end) (own f s c.in_ok-solver.ensures.kept)
          c.in_ok-end.ensures;
    }
