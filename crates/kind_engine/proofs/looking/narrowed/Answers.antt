use Rattle.std.proofs.Common.{rules, arith, ◌≡◌, ◌∷◌, [], true, subst, sym, ap, inr, refl}
use Rattle.std.specs.Prelude.{List, Contains}
use Rattle.std.specs.Int.{w128}
use Rattle.std.proofs.lemmas.Int.{to_z-of_z}
use mir.Val.{SFits}
use Rattle.proof_steps.specs.View.{Refutation, proof_view}
use Rattle.sys_terms.specs.View.{Task, system_view, states_view, terms_view, base}
use Rattle.sys_terms.specs.Fits.{is_asked, is_light_task}
use Rattle.sys_terms.specs.NarrowQuery.{narrow_task}
use Rattle.smt_solver.specs.View.{unsat, sat}
use Rattle.smt_solver.specs.Answered.{IsAnswered}
use Rattle.cert_rules.specs.View.{proofs_view}
use Rattle.kind_engine.proofs.Refuting.{answer-by, refuted-by}
use Rattle.kind_engine.proofs.looking.narrowed.Goals as goal

pub asked-requires-clause-asked : goal.asked-requires-clause-asked
asked-requires-clause-asked c =
    let m = system_view c.args.subject.now.system in
    let task = base c.args.property c.args.instant in
    let law = c.narrow_queries_ask_for_narrow_states.ensures m task (terms_view c.args.cites.now) in
    let named : is_asked m task ≡ true = search rules in
    subst (λ t. is_asked m t ≡ true) (sym c.in_ok-what.ensures) (law.asked c.requires.ready.mild.fit named)

pub asked-requires-clause-light_task : goal.asked-requires-clause-light_task
asked-requires-clause-light_task c =
    let m = system_view c.args.subject.now.system in
    let task = base c.args.property c.args.instant in
    let law = c.narrow_queries_ask_for_narrow_states.ensures m task (terms_view c.args.cites.now) in
    subst (λ t. is_light_task t ≡ true) (sym c.in_ok-what.ensures) (law.light c.requires.ready.mild refl)

pub returns-in_ok-push-in-Unsat : goal.returns-in_ok-push-in-Unsat
returns-in_ok-push-in-Unsat c =
    let m = system_view c.args.subject.now.system in
    let budgets = c.args.subject.now.plan.budgets in
    let task = narrow_task m (base c.args.property c.args.instant) in
    let cites = terms_view c.args.cites.now in
    let proof = c.in-Unsat.proof in
    let one : c.push.new.self.items ≡ proof ∷ [] = search rules in
    let fits : SFits w128 c.args.large.value = search rules in (
      refl,
      c.requires.answer,
      simp to_z-of_z c.requires.large,
      (
        proof_view proof,
        subst (λ (l : List Refutation). Contains l (proof_view proof)) (sym (ap proofs_view one)) (0, omega arith, refl),
        refuted-by m budgets task cites (proof_view proof)
            (subst (λ (t : Task). IsAnswered m t cites budgets (unsat (proof_view proof))) c.in_ok-what.ensures
            (rw c.in-Unsat.is at c.in_ok-proof.ensures)),
      ),
      c.requires.first,
    )

pub returns-in-Sat : goal.returns-in-Sat
returns-in-Sat c =
    let m = system_view c.args.subject.now.system in
    let budgets = c.args.subject.now.plan.budgets in
    let task = base c.args.property c.args.instant in
    let cites = terms_view c.args.cites.now in
    let law = c.narrow_queries_ask_for_narrow_states.ensures m task cites in
    let states = states_view c.in-Sat.narrow.items in
    let answer = answer-by m budgets (narrow_task m task) cites states
    (subst (λ (t : Task). IsAnswered m t cites budgets (sat states)) c.in_ok-what.ensures
    (rw c.in-Sat.is at c.in_ok-proof.ensures)) in
    (law.answers states).0 answer

pub returns-in-Stop : goal.returns-in-Stop
returns-in-Stop c = (inr c.in_ok-what.ensures, rw c.in-Stop.is at c.in_ok-proof.ensures)
