use Rattle.std.proofs.Common.{rules, arith, ◌≡◌, ◌<◌, ◌≤◌, ◌++◌, ◌∷◌, ◌+◌, [], length, ◌∙◌, subst, sym, ap}
use Rattle.proof_steps.specs.View.{proof_view}
use Rattle.sys_terms.specs.View.{system_view, states_view, terms_view}
use Rattle.cert_rules.specs.View.{proofs_view}
use Rattle.cert_rules.specs.Facts.{AreBases}
use Rattle.kind_engine.proofs.Lists.{length-map, map-push}
use Rattle.kind_engine.proofs.Refuting.{bases-next}
use Rattle.kind_engine.proofs.Breaking.{broken-at}
use Rattle.kind_engine.proofs.grounds.look_below.Goals as goal

pub returns-in-Broken : goal.returns-in-Broken
returns-in-Broken c =
    let m = system_view c.args.subject.now.system in
    let cites = terms_view c.args.terms.now in
    let plan = c.args.subject.now.plan in
    let p = c.args.property in
    let at = c.loop-instant in
    let proofs = at.proofs.items in
    let states = states_view c.in-Broken.path.items in
    let below : at.instant < c.args.k = search rules in
    let within : at.instant ≤ plan.depth = let w = c.requires.within in omega (arith, below, w) in
    let look = rw c.in-Broken.is at c.in_ok-proof.ensures in
    broken-at m p c.requires.named (c.facts_are_true.ensures m c.requires.ready.mild.fit) cites c.requires.citable
    plan c.requires.ready (proofs_view proofs) at.instant (length-map proof_view proofs ∙ at.invariant.count)
    at.invariant.refuted within states look.0 look.1

pub returns-in-Open : goal.returns-in-Open
returns-in-Open c =
    let at = c.loop-instant in
    let below : at.instant < c.args.k = search rules in (
      below,
      length-map proof_view at.proofs.items ∙ at.invariant.count,
      at.invariant.refuted,
      rw c.in-Open.is at c.in_ok-proof.ensures,
    )

pub loop-instant-preserved : goal.loop-instant-preserved
loop-instant-preserved c =
    let m = system_view c.args.subject.now.system in
    let cites = terms_view c.args.terms.now in
    let p = c.args.property in
    let at = c.loop-instant in
    let proofs = at.proofs.items in
    let proof = c.in-Refuted.proof in
    let e : c.push.new.self.items ≡ proofs ++ proof ∷ [] = search rules in
    let n : length c.push.new.self.items ≡ at.instant + 1 =
    let k = at.invariant.count in search (rules, arith) in
    record {
      count = n;
      refuted = subst (AreBases m p cites 0) (sym (ap proofs_view e ∙ map-push proof_view proofs proof))
          (bases-next m p cites (proofs_view proofs) (proof_view proof) at.instant
          (length-map proof_view proofs ∙ at.invariant.count) at.invariant.refuted
          (rw c.in-Refuted.is at c.in_ok-proof.ensures));
    }
