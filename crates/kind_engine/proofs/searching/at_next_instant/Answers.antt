use Rattle.std.proofs.Common.{rules, ◌≡◌, ◌≤◌, ◌++◌, ◌∷◌, [], length, ◌∙◌, subst, sym, ap}
use Rattle.proof_steps.specs.View.{proof_view}
use Rattle.sys_terms.specs.View.{system_view, states_view, obligation_view}
use Rattle.cert_rules.specs.View.{proofs_view}
use Rattle.cert_rules.specs.Facts.{AreBases, IsTerm}
use Rattle.board_core.specs.Entries.{IsBroken}
use Rattle.board_core.specs.View.{cause_view}
use Rattle.kind_engine.specs.Halts.{open_grounds}
use Rattle.kind_engine.proofs.Lists.{length-map, map-push, none-of}
use Rattle.kind_engine.proofs.Refuting.{bases-next}
use Rattle.kind_engine.proofs.Breaking.{broken-at}
use Rattle.kind_engine.proofs.Halting.{bounded-open, halted-true, open-first}
use Rattle.kind_engine.proofs.searching.at_next_instant.Goals as goal

pub refuted-requires-clause-refuted : goal.refuted-requires-clause-refuted
refuted-requires-clause-refuted g c =
    let m = system_view c.args.subject.now.system in
    let proofs = c.args.proofs.items in
    let n : c.len-instant.result ≡ length proofs = search rules in
    let e : c.push.new.self.items ≡ proofs ++ c.in-Refuted.proof ∷ [] = search rules in
    subst (AreBases m c.args.property [] 0) (sym (ap proofs_view e ∙ map-push proof_view proofs c.in-Refuted.proof))
    (bases-next m c.args.property [] (proofs_view proofs) (proof_view c.in-Refuted.proof)
    c.len-instant.result (length-map proof_view proofs ∙ sym n) c.requires.refuted
    (rw c.in-Refuted.is at c.in_ok-proof.ensures))

pub post_broken-requires : goal.post_broken-requires
post_broken-requires g c =
    let m = system_view c.args.subject.now.system in
    let plan = c.args.subject.now.plan in
    let p = c.args.property in
    let proofs = c.args.proofs.items in
    let states = states_view c.in-Broken.path.items in
    let look = rw c.in-Broken.is at c.in_ok-proof.ensures in
    let n : c.len-instant.result ≡ length proofs = search rules in
    record {
      broken = subst (λ k. IsBroken k p states) (sym c.requires.machine)
          (broken-at m p c.requires.named (c.facts_are_true.ensures m c.requires.ready.mild.fit) [] (none-of (IsTerm m))
          plan c.requires.ready (proofs_view proofs) c.len-instant.result (length-map proof_view proofs ∙ sym n)
          c.requires.refuted (subst (λ k. k ≤ plan.depth) (sym n) c.requires.within) states
          look.0 look.1);
    }

pub returns-in_ok-halted-in-Open-clause-task : goal.returns-in_ok-halted-in-Open-clause-task
returns-in_ok-halted-in-Open-clause-task g c =
    let m = system_view c.args.subject.now.system in
    let plan = c.args.subject.now.plan in
    let p = c.args.property in
    let i = c.len-instant.result in
    let proofs = c.args.proofs.items in
    let seen = g.B.BoardSeat.seen c.args.seat.now in
    let left = c.in-Open.left in
    let e = c.in_ok-halted-in-Open.ensures in
    let n : i ≡ length proofs = search rules in
    let none : c.new.result.items ≡ [] = search rules in
    let what = obligation_view left.what in
    let more = proofs_view left.proofs.items in
    let why = cause_view left.cause in
    let open' = rw c.in-Open.is at c.in_ok-proof.ensures in (
      halted-true m plan seen p c.requires.named c.args.subject.now.engine 0 c.requires.engine
          c.in_ok-halted-in-Open.halted left [] (proofs_view proofs)
          (e.grounds ∙ ap (λ l. open_grounds l (proofs_view proofs) left) none) e.cause
          (bounded-open m plan seen p c.requires.named (c.facts_are_true.ensures m c.requires.ready.mild.fit)
          (proofs_view proofs) i (length-map proof_view proofs ∙ sym n) c.requires.refuted
          (subst (λ k. k ≤ plan.depth) (sym n) c.requires.within) what more why open'),
      open-first m plan p i [] what more why (cause_view c.in_ok-halted-in-Open.halted.cause) (ap cause_view e.cause) open',
    )
