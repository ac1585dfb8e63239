use Rattle.std.proofs.Common.{subst, sym, ap, ◌∙◌}
use Rattle.board_core.specs.Entries.{IsTrueAfter, proved}
use Rattle.board_core.specs.Seats.{HasPosted}
use Rattle.kind_engine.proofs.Histories.{held-by}
use Rattle.board_core.specs.View.{entry_view}
use Rattle.kind_engine.specs.Posts.{IsPost}
use Rattle.kind_engine.proofs.Posts.{grows-posted}
use Rattle.kind_engine.proofs.posting.post_held.Goals as goal

pub post-requires-clause-true_one : goal.post-requires-clause-true_one
post-requires-clause-true_one g c =
    let b = g.B.BoardSeat in
    let seat = c.args.seat.now in
    subst (IsTrueAfter (b.machine seat) (b.plan seat) (b.seen seat))
    (sym (c.held.ensures.says ∙ ap proved c.requires.says)) c.requires.named

pub returns-clause-decided : goal.returns-clause-decided
returns-clause-decided g c =
    let b = g.B.BoardSeat in
    let seen = b.seen c.args.seat.now in
    let after = b.seen c.post.new.self in
    held-by (b.number c.args.seat.now) c.args.property c.args.first c.args.second seen after c.in_ok-post.field-0
    (subst (λ s. HasPosted (b.number c.args.seat.now) seen after s c.in_ok-post.field-0)
    (c.held.ensures.says ∙ ap proved c.requires.says) c.in_ok-post.ensures.ok)

pub returns-clause-posts : goal.returns-clause-posts
returns-clause-posts g c =
    let b = g.B.BoardSeat in
    λ least.
    grows-posted (IsPost least) (b.number c.args.seat.now) (b.seen c.args.seat.now) (b.seen c.post.new.self)
    (entry_view c.held.result) c.in_ok-post.field-0 c.in_ok-post.ensures.ok
    (subst (IsPost least) (sym c.held.ensures.says) (tt, tt))
