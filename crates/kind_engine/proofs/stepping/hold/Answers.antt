use Rattle.std.proofs.Common.{rules, arith, ◌≡◌, suc, ◌∙◌, subst, sym, ap}
use Rattle.std.specs.Prelude.{slice_get}
use Rattle.cert_rules.specs.View.{cites_view}
use Rattle.cert_rules.specs.Facts.{AreCited, IsStepOf}
use Rattle.cert_rules.specs.Kept.{base_instant, step_property}
use Rattle.board_core.specs.Entries.{IsBaseTo, facts_in}
use Rattle.board_core.proofs.Turns.{begins-begins}
use Rattle.kind_engine.specs.Posts.{IsPost}
use Rattle.kind_engine.proofs.Citing.{cited-later}
use Rattle.kind_engine.proofs.Histories.{named-by}
use Rattle.kind_engine.proofs.Lists.{on-ok}
use Rattle.kind_engine.proofs.Posts.{grows-then}
use Rattle.kind_engine.proofs.stepping.hold.Goals as goal

pub post_step-requires-clause-cited : goal.post_step-requires-clause-cited
post_step-requires-clause-cited g c =
    let b = g.B.BoardSeat in
    let before = b.seen c.args.seat.now in
    let first = b.seen c.post_base.new.seat in
    let lent : c.deref-2.result.now ≡ c.args.lemmas.now.cites.items = search rules in
    subst (AreCited (facts_in first)) (sym (c.in_ok-step.ensures.cites ∙ ap cites_view lent))
    (cited-later before first (cites_view c.args.lemmas.now.cites.items) c.in_ok-first.ensures.seen
    c.requires.lemmas.cited)

pub post_held-requires-clause-named : goal.post_held-requires-clause-named
post_held-requires-clause-named g c =
    let b = g.B.BoardSeat in
    let p = c.args.property in
    let base = c.in_ok-base.base in
    let step = c.in_ok-step.step in
    let first = b.seen c.post_base.new.seat in
    let second = b.seen c.post_step.new.seat in
    let d = base_instant base in
    let e : c.args.k ≡ suc d =
    let i = c.in_ok-base.ensures.instant in let s = c.requires.some in search (rules, arith) in
    named-by p d c.args.k c.in_ok-first.first c.in_ok-second.second first second e c.in_ok-second.ensures.seen
    (subst (λ q. IsBaseTo q d (slice_get (facts_in first) c.in_ok-first.first)) c.in_ok-base.ensures.property
    c.in_ok-first.ensures.base)
    (subst (λ q. IsStepOf q c.args.k (slice_get (facts_in second) c.in_ok-second.second)) c.in_ok-step.ensures.property
    (subst (λ k. IsStepOf (step_property step) k (slice_get (facts_in second) c.in_ok-second.second))
    c.in_ok-step.ensures.states c.in_ok-second.ensures.step))

pub returns-clause-seen : goal.returns-clause-seen
returns-clause-seen g c =
    let b = g.B.BoardSeat in
    let before = b.seen c.args.seat.now in
    let first = b.seen c.post_base.new.seat in
    let second = b.seen c.post_step.new.seat in
    let after = b.seen c.post_held.new.seat in
    begins-begins before second after
    (begins-begins before first second c.in_ok-first.ensures.seen c.in_ok-second.ensures.seen)
    c.post_held.ensures.seen

pub returns-clause-posts : goal.returns-clause-posts
returns-clause-posts g c =
    let b = g.B.BoardSeat in
    let number = b.number c.args.seat.now in
    let before = b.seen c.args.seat.now in
    let first = b.seen c.post_base.new.seat in
    let second = b.seen c.post_step.new.seat in
    let after = b.seen c.post_held.new.seat in
    let f = c.in_ok-first.ensures in
    let s = c.in_ok-second.ensures in
    on-ok c.post_held.result
    (λ h least.
    grows-then (IsPost least) number (b.number c.post_step.new.seat) before second after (s.seat.0 ∙ f.seat.0)
    (grows-then (IsPost least) number (b.number c.post_base.new.seat) before first second f.seat.0 (f.posts least)
    (s.posts least))
    (h least))
    c.post_held.ensures.posts
