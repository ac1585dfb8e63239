use Rattle.std.proofs.Common.{rules, arith, ◌≡◌, ◌∷◌, [], ◌∙◌, subst, sym, ap}
use Rattle.std.specs.Prelude.{List, Some}
use Rattle.proof_steps.specs.StopView.{stop_view}
use Rattle.sys_terms.specs.View.{Formula, Machine, system_view, states_view, terms_view, step}
use Rattle.smt_solver.specs.View.{sat, stop}
use Rattle.smt_solver.specs.Answered.{IsAnswered}
use Rattle.cert_rules.specs.View.{cites_view, cited_terms, proofs_view}
use Rattle.cert_rules.specs.Facts.{terms_of}
use Rattle.board_core.specs.declared.plan.Plan.{Plan}
use Rattle.board_core.specs.Entries.{Grounds, IsTrueAfter, spent, stopped, stuck}
use Rattle.kind_engine.specs.Halts.{paths_view}
use Rattle.kind_engine.proofs.Citing.{places-same}
use Rattle.kind_engine.proofs.Refuting.{answer-by}
use Rattle.kind_engine.proofs.Halting.{step-stop, stuck-after}
use Rattle.kind_engine.proofs.stepping.at_next_step.Goals as goal

pub returns-in_ok-push-in-Stop-clause-task : goal.returns-in_ok-push-in-Stop-clause-task
returns-in_ok-push-in-Stop-clause-task g c =
    let m = system_view c.args.subject.now.system in
    let plan = c.args.subject.now.plan in
    let p = c.args.property in
    let k = c.args.k in
    let seen = g.B.BoardSeat.seen c.args.seat.now in
    let h = stop_view c.in-Stop.stop in
    let cited = c.args.lemmas.now.cites.items in
    let places = c.in_ok-places-in-Stop.places.items in
    let deref : c.deref-2.result.now ≡ c.in_ok-terms.terms.items = search rules in
    let lent : c.deref.result.now ≡ c.args.lemmas.now.cites.items = search rules in
    let same = ap terms_view deref ∙ (c.in_ok-terms.ensures ∙ ap cited_terms lent) in
    let kept-lent : c.deref-in-Stop.result.now ≡ cited = search rules in
    let there = c.in_ok-places-in-Stop.ensures ∙ places-same c.deref-in-Stop.result.now cited kept-lent in
    let one : c.push.new.self.items ≡ c.args.run ∷ [] = search rules in
    let proofs = proofs_view c.new.result.items in
    let kept : Grounds = record {
      query = Some (step p k, places);
      proofs = proofs;
      paths = paths_view c.push.new.self.items;
      terms = [];
    } in (
      subst (λ e. IsTrueAfter m plan seen (spent e p (stopped h) kept)) (sym c.requires.engine)
          (step-stop m plan seen p c.requires.named k (states_view c.args.run.items) c.requires.run (cites_view cited)
          c.requires.lemmas.cited h
          (subst (λ (fs : List Formula). IsAnswered m (step p k) fs plan.budgets (stop h)) same
          (rw c.in-Stop.is at c.in_ok-proof.ensures)) places there proofs
          (paths_view c.push.new.self.items) (ap paths_view one)),
      tt,
    )

pub post_stuck-requires : goal.post_stuck-requires
post_stuck-requires g c =
    let b = g.B.BoardSeat in
    let m = system_view c.args.subject.now.system in
    let plan = c.args.subject.now.plan in
    let p = c.args.property in
    let k = c.args.k in
    let seen = b.seen c.args.seat.now in
    let cites = cites_view c.args.lemmas.now.cites.items in
    let front = c.args.lemmas.now.front in
    let states = states_view c.in-Sat.states.items in
    let deref : c.deref-2.result.now ≡ c.in_ok-terms.terms.items = search rules in
    let lent : c.deref.result.now ≡ c.args.lemmas.now.cites.items = search rules in
    let same = ap terms_view deref ∙ (c.in_ok-terms.ensures ∙ ap cited_terms lent) in
    let last : k ≡ plan.depth = let w = c.requires.run.within in search (rules, arith) in
    let answer = answer-by m plan.budgets (step p k) (terms_of cites) states
    (subst (λ (fs : List Formula). IsAnswered m (step p k) fs plan.budgets (sat states)) same
    (rw c.in-Sat.is at c.in_ok-proof.ensures)) in
    record {
      stuck = subst (λ (n : Machine). IsTrueAfter n (b.plan c.args.seat.now) seen (stuck p states front))
          (sym c.requires.book.0)
          (subst (λ (n : Plan). IsTrueAfter m n seen (stuck p states front)) (sym c.requires.book.1)
          (stuck-after m plan seen p c.requires.named k last front cites c.requires.lemmas states answer));
    }
