use Rattle.std.proofs.Common.{subst, sym}
use Rattle.cert_rules.specs.Kept.{step_cites, step_k, step_proof, step_property}
use Rattle.board_core.specs.Entries.{IsTrueAfter}
use Rattle.board_core.specs.Seats.{HasPosted}
use Rattle.board_core.specs.View.{entry_view}
use Rattle.kind_engine.proofs.Histories.{step-by}
use Rattle.kind_engine.specs.Posts.{IsPost}
use Rattle.kind_engine.proofs.Posts.{grows-posted}
use Rattle.kind_engine.proofs.posting.post_step.Goals as goal

pub post-requires-clause-true_one : goal.post-requires-clause-true_one
post-requires-clause-true_one g c =
    let seen = g.B.BoardSeat.seen c.args.seat.now in
    let plan = g.B.BoardSeat.plan c.args.seat.now in
    subst (λ m. IsTrueAfter m plan seen (entry_view c.step.result)) c.requires.system
    (c.step.ensures.is_true plan seen c.requires.cited)

pub returns-clause-step : goal.returns-clause-step
returns-clause-step g c =
    let b = g.B.BoardSeat in
    let seen = b.seen c.args.seat.now in
    let after = b.seen c.post.new.self in
    step-by (b.number c.args.seat.now) (step_property c.args.step) (step_k c.args.step) (step_cites c.args.step)
    (step_proof c.args.step) seen after c.in_ok-place.place
    (subst (λ s. HasPosted (b.number c.args.seat.now) seen after s c.in_ok-place.place) c.step.ensures.says
    c.in_ok-place.ensures.ok)

pub returns-clause-posts : goal.returns-clause-posts
returns-clause-posts g c =
    let b = g.B.BoardSeat in
    λ least.
    grows-posted (IsPost least) (b.number c.args.seat.now) (b.seen c.args.seat.now) (b.seen c.post.new.self)
    (entry_view c.step.result) c.in_ok-place.place c.in_ok-place.ensures.ok
    (subst (IsPost least) (sym c.step.ensures.says) (tt, tt))
