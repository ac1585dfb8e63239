use Rattle.std.specs.Prelude.{Some}
use Rattle.std.proofs.Common.{subst}
use Rattle.sys_terms.specs.View.{query_view}
use Rattle.cnf_maker.specs.View.{form_view}
use Rattle.smt_solver.specs.View.{answer_view}
use Rattle.smt_solver.specs.Judging.{IsVerdict, IsVerdictIf}
use Rattle.smt_solver.proofs.Answering.{never-err}
use Rattle.smt_solver.proofs.Judged.{verdict-true, verdict-stops}
use Rattle.smt_solver.proofs.solving.answered.Goals as goal

pub made-requires : goal.made-requires
made-requires c = λ past. never-err (query_view c.args.query.now) c.requires.small past

pub returns-in-Some-clause-answer : goal.returns-in-Some-clause-answer
returns-in-Some-clause-answer c =
    let q = query_view c.args.query.now in
    let v : IsVerdict q c.args.size c.args.count (form_view c.in_ok-cnf.cnf) (answer_view c.in-Some.answer) =
    subst (IsVerdictIf q c.args.size c.args.count (form_view c.in_ok-cnf.cnf)) c.in-Some.is c.in_ok-verdict.ensures.verdict in
    verdict-true q c.args.size c.args.count (form_view c.in_ok-cnf.cnf) c.args.budgets (answer_view c.in-Some.answer)
    c.in_ok-cnf.ensures.exact v

pub returns-in-Some-clause-stops : goal.returns-in-Some-clause-stops
returns-in-Some-clause-stops c = λ none.
    let q = query_view c.args.query.now in
    let v : IsVerdict q c.args.size c.args.count (form_view c.in_ok-cnf.cnf) (answer_view c.in-Some.answer) =
    subst (IsVerdictIf q c.args.size c.args.count (form_view c.in_ok-cnf.cnf)) c.in-Some.is c.in_ok-verdict.ensures.verdict in
    verdict-stops q c.args.size c.args.count (form_view c.in_ok-cnf.cnf) (answer_view c.in-Some.answer) v
