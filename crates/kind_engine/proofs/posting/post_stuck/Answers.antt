use Rattle.std.proofs.Common.{subst}
use Rattle.sys_terms.specs.View.{states_view}
use Rattle.board_core.specs.Seats.{HasPosted}
use Rattle.kind_engine.proofs.Histories.{stuck-by}
use Rattle.kind_engine.proofs.posting.post_stuck.Goals as goal

pub returns-clause-depth : goal.returns-clause-depth
returns-clause-depth g c =
    let b = g.B.BoardSeat in
    let seen = b.seen c.args.seat.now in
    let after = b.seen c.post.new.self in
    stuck-by (b.number c.args.seat.now) c.args.property (b.plan c.args.seat.now).depth seen after
    (states_view c.args.path.items) c.args.front c.in_ok-post.field-0 c.requires.stuck.1
    (subst (λ s. HasPosted (b.number c.args.seat.now) seen after s c.in_ok-post.field-0) c.stuck.ensures.says
    c.in_ok-post.ensures.ok)
