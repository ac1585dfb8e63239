use Rattle.std.specs.Prelude.{◌≡◌, true}
use Rattle.std.proofs.Common.{subst, sym, ◌∙◌}
use Rattle.sys_terms.specs.View.{Question, terms_view, system_view, obligation_view, query_view}
use Rattle.sys_terms.specs.Fits.{all_fit_one}
use Rattle.sys_terms.proofs.Fitting.{conditions-fit}
use Rattle.sys_terms.specs.Queries.{query_of}
use Rattle.cnf_maker.specs.Plain.{IsMadeSmall}
use Rattle.smt_solver.specs.View.{answer_view}
use Rattle.smt_solver.specs.Answered.{HasNoAtoms, IsAnswered, IsTrueOver, StopsByConflicts}
use Rattle.smt_solver.proofs.Valued.{answered-as, room-as, if-ok}
use Rattle.smt_solver.proofs.solving.solve.Goals as goal

pub answered-requires-clause-room : goal.answered-requires-clause-room
answered-requires-clause-room c =
    room-as (system_view c.args.system.now) (obligation_view c.args.what.now) (terms_view c.args.cites.now)
    c.requires.mild c.requires.asked c.requires.cited (query_view c.in_ok-query.query) c.len.result
    c.state_count.result c.in_ok-query.ensures.exact (c.len.ensures ∙ c.args.system.now.shapes.ok.0) c.state_count.ensures

pub answered-requires-clause-fit : goal.answered-requires-clause-fit
answered-requires-clause-fit c =
    subst (λ (q : Question). all_fit_one q.shapes q.conditions ≡ true) (sym c.in_ok-query.ensures.exact)
    (conditions-fit (system_view c.args.system.now) (obligation_view c.args.what.now) (terms_view c.args.cites.now)
    c.requires.mild.fit c.requires.asked c.requires.cited)

pub answered-requires-clause-small : goal.answered-requires-clause-small
answered-requires-clause-small c =
    subst IsMadeSmall (sym c.in_ok-query.ensures.exact)
    (c.mild_queries_have_small_forms.ensures (system_view c.args.system.now) (obligation_view c.args.what.now)
    (terms_view c.args.cites.now) c.requires.mild c.requires.asked c.requires.light_task c.requires.cited c.requires.light_cites)

pub returns-clause-answer : goal.returns-clause-answer
returns-clause-answer c =
    if-ok
    (λ a. IsTrueOver (query_view c.in_ok-query.query) c.len.result c.state_count.result c.args.budgets (answer_view a))
    (λ a. IsAnswered (system_view c.args.system.now) (obligation_view c.args.what.now) (terms_view c.args.cites.now)
    c.args.budgets (answer_view a))
    c.answered.result
    (λ a h. answered-as (system_view c.args.system.now) (obligation_view c.args.what.now)
    (terms_view c.args.cites.now) c.requires.mild c.requires.asked c.requires.cited
    (query_view c.in_ok-query.query) c.len.result c.state_count.result c.in_ok-query.ensures.exact (c.len.ensures ∙ c.args.system.now.shapes.ok.0)
    c.state_count.ensures c.args.budgets (answer_view a) h)
    c.answered.ensures.answer

pub returns-clause-stops : goal.returns-clause-stops
returns-clause-stops c =
    if-ok (λ a. HasNoAtoms (query_view c.in_ok-query.query) → StopsByConflicts (answer_view a))
    (λ a. HasNoAtoms (query_of (system_view c.args.system.now) (obligation_view c.args.what.now) (terms_view c.args.cites.now))
    → StopsByConflicts (answer_view a))
    c.answered.result
    (λ a h none. h (subst HasNoAtoms (sym c.in_ok-query.ensures.exact) none))
    c.answered.ensures.stops
