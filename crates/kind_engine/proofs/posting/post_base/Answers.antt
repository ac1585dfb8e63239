use Rattle.std.proofs.Common.{subst, sym}
use Rattle.cert_rules.specs.Kept.{base_cites, base_instant, base_proofs, base_property}
use Rattle.board_core.specs.Entries.{IsTrueAfter}
use Rattle.board_core.specs.Seats.{HasPosted}
use Rattle.board_core.specs.View.{entry_view}
use Rattle.kind_engine.proofs.Histories.{base-by}
use Rattle.kind_engine.specs.Posts.{IsPost}
use Rattle.kind_engine.proofs.Posts.{grows-posted}
use Rattle.kind_engine.proofs.posting.post_base.Goals as goal

pub post-requires-clause-true_one : goal.post-requires-clause-true_one
post-requires-clause-true_one g c =
    let seen = g.B.BoardSeat.seen c.args.seat.now in
    let plan = g.B.BoardSeat.plan c.args.seat.now in
    subst (λ m. IsTrueAfter m plan seen (entry_view c.base.result)) c.requires.system
    (c.base.ensures.is_true plan seen c.requires.cited)

pub returns-clause-base : goal.returns-clause-base
returns-clause-base g c =
    let b = g.B.BoardSeat in
    let seen = b.seen c.args.seat.now in
    let after = b.seen c.post.new.self in
    base-by (b.number c.args.seat.now) (base_property c.args.base) (base_instant c.args.base) (base_cites c.args.base)
    (base_proofs c.args.base) seen after c.in_ok-place.place
    (subst (λ s. HasPosted (b.number c.args.seat.now) seen after s c.in_ok-place.place) c.base.ensures.says
    c.in_ok-place.ensures.ok)

pub returns-clause-posts : goal.returns-clause-posts
returns-clause-posts g c =
    let b = g.B.BoardSeat in
    λ least.
    grows-posted (IsPost least) (b.number c.args.seat.now) (b.seen c.args.seat.now) (b.seen c.post.new.self)
    (entry_view c.base.result) c.in_ok-place.place c.in_ok-place.ensures.ok
    (subst (IsPost least) (sym c.base.ensures.says) (tt, tt))
