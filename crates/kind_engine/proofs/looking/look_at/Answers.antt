use Rattle.std.proofs.Common.{inl, refl}
use Rattle.proof_steps.specs.View.{proof_view}
use Rattle.sys_terms.specs.View.{system_view, states_view, terms_view, base}
use Rattle.kind_engine.proofs.Refuting.{answer-by, refuted-by}
use Rattle.kind_engine.proofs.looking.look_at.Goals as goal

pub returns-in-Unsat : goal.returns-in-Unsat
returns-in-Unsat c =
    refuted-by (system_view c.args.subject.now.system) c.args.subject.now.plan.budgets (base c.args.property c.args.instant)
    (terms_view c.args.cites.now) (proof_view c.in-Unsat.proof) (rw c.in-Unsat.is at c.in_ok-proof.ensures)

pub broken-requires-clause-answer : goal.broken-requires-clause-answer
broken-requires-clause-answer c =
    answer-by (system_view c.args.subject.now.system) c.args.subject.now.plan.budgets (base c.args.property c.args.instant)
    (terms_view c.args.cites.now) (states_view c.in-Sat.path.items) (rw c.in-Sat.is at c.in_ok-proof.ensures)

pub returns-in-Stop : goal.returns-in-Stop
returns-in-Stop c = (inl refl, rw c.in-Stop.is at c.in_ok-proof.ensures)
