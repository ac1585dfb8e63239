use Rattle.std.proofs.Common.{rules, ◌≡◌, ◌++◌, ◌∷◌, [], ◌∙◌, subst, ap}
use Rattle.std.specs.Prelude.{List}
use Rattle.proof_steps.specs.View.{proof_view}
use Rattle.sys_terms.specs.View.{Formula, system_view, terms_view, obligation_view}
use Rattle.cert_rules.specs.View.{cites_view, cited_terms, proofs_view}
use Rattle.cert_rules.specs.Facts.{AreBases, terms_of}
use Rattle.board_core.specs.View.{cause_view}
use Rattle.kind_engine.specs.Halts.{open_grounds}
use Rattle.kind_engine.specs.Looks.{IsOpen}
use Rattle.kind_engine.proofs.Lists.{map-push}
use Rattle.kind_engine.proofs.Citing.{places-same}
use Rattle.kind_engine.proofs.Halting.{below-open, halted-true, open-first}
use Rattle.kind_engine.proofs.stepping.founded.Goals as goal

pub returns-in_ok-halted-in-Open-clause-task : goal.returns-in_ok-halted-in-Open-clause-task
returns-in_ok-halted-in-Open-clause-task g c =
    let m = system_view c.args.subject.now.system in
    let plan = c.args.subject.now.plan in
    let p = c.args.property in
    let i = c.in-Open.field-0 in
    let seen = g.B.BoardSeat.seen c.args.seat.now in
    let left = c.in-Open.left in
    let proofs = c.in-Open.proofs.items in
    let cited = c.args.lemmas.now.cites.items in
    let cites = cites_view cited in
    let places = c.in_ok-places-in-Open.places.items in
    let e = c.in_ok-halted-in-Open.ensures in
    let deref : c.deref-2.result.now ≡ c.in_ok-terms.terms.items = search rules in
    let lent : c.deref.result.now ≡ cited = search rules in
    let same = ap terms_view deref ∙ (c.in_ok-terms.ensures ∙ ap cited_terms lent) in
    let kept-lent : c.deref-in-Open.result.now ≡ cited = search rules in
    let there = c.in_ok-places-in-Open.ensures ∙ places-same c.deref-in-Open.result.now cited kept-lent in
    let one : c.push.new.self.items ≡ proofs ++ c.args.proof ∷ [] = search rules in
    let ground = rw c.in-Open.is at c.in_ok-proofs.ensures in
    let what = obligation_view left.what in
    let more = proofs_view left.proofs.items in
    let why = cause_view left.cause in
    let open' = subst (λ (fs : List Formula). IsOpen m plan p i fs what more why) same ground.3 in (
      halted-true m plan seen p c.requires.named c.args.subject.now.engine 1 c.requires.engine
          c.in_ok-halted-in-Open.halted left places (proofs_view proofs ++ proof_view c.args.proof ∷ [])
          (e.grounds ∙ ap (λ l. open_grounds places l left) (ap proofs_view one ∙ map-push proof_view proofs c.args.proof))
          e.cause
          (below-open m plan seen p c.requires.named (c.facts_are_true.ensures m c.requires.ready.mild.fit)
          (proofs_view proofs) i cites ground.1
          (subst (λ (fs : List Formula). AreBases m p fs 0 (proofs_view proofs)) same ground.2)
          c.requires.lemmas.citable c.requires.lemmas.cited c.args.k ground.0 c.requires.within (proof_view c.args.proof)
          c.requires.step places there what more why open'),
      open-first m plan p i (terms_of cites) what more why (cause_view c.in_ok-halted-in-Open.halted.cause)
          (ap cause_view e.cause) open',
    )
