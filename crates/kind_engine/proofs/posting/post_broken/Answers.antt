use Rattle.std.proofs.Common.{subst}
use Rattle.sys_terms.specs.View.{states_view}
use Rattle.board_core.specs.Seats.{HasPosted}
use Rattle.kind_engine.proofs.Histories.{decided-by}
use Rattle.kind_engine.proofs.posting.post_broken.Goals as goal

pub returns-clause-decided : goal.returns-clause-decided
returns-clause-decided g c =
    let b = g.B.BoardSeat in
    let seen = b.seen c.args.seat.now in
    let after = b.seen c.post.new.self in
    decided-by (b.number c.args.seat.now) c.args.property seen after
    (states_view c.args.path.items) c.in_ok-post.field-0
    (subst (λ s. HasPosted (b.number c.args.seat.now) seen after s c.in_ok-post.field-0) c.broken.ensures.says
    c.in_ok-post.ensures.ok)
