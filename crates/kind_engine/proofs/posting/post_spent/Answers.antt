use Rattle.std.proofs.Common.{subst, sym}
use Rattle.board_core.specs.Seats.{HasPosted}
use Rattle.board_core.specs.View.{cause_view, entry_view, grounds_view}
use Rattle.kind_engine.specs.Posts.{IsPost}
use Rattle.kind_engine.proofs.Histories.{cause-by}
use Rattle.kind_engine.proofs.Posts.{grows-posted}
use Rattle.kind_engine.proofs.posting.post_spent.Goals as goal

pub returns-clause-cause : goal.returns-clause-cause
returns-clause-cause g c =
    let b = g.B.BoardSeat in
    let seen = b.seen c.args.seat.now in
    let after = b.seen c.post.new.self in
    cause-by (b.number c.args.seat.now) c.args.engine c.args.property seen after (cause_view c.args.cause)
    (grounds_view c.args.kept) c.in_ok-post.field-0
    (subst (λ s. HasPosted (b.number c.args.seat.now) seen after s c.in_ok-post.field-0) c.spent.ensures.says
    c.in_ok-post.ensures.ok)

pub returns-clause-posts : goal.returns-clause-posts
returns-clause-posts g c =
    let b = g.B.BoardSeat in
    λ least.
    grows-posted (IsPost least) (b.number c.args.seat.now) (b.seen c.args.seat.now) (b.seen c.post.new.self)
    (entry_view c.spent.result) c.in_ok-post.field-0 c.in_ok-post.ensures.ok
    (subst (IsPost least) (sym c.spent.ensures.says) (tt, c.requires.first))
