use Rattle.std.proofs.Common.{◌<◌, length, take, subst, sym, ap}
use Rattle.sys_terms.specs.View.{Machine, system_view}
use Rattle.board_core.specs.declared.plan.Plan.{Plan}
use Rattle.board_core.specs.Entries.{IsTrueAfter, spent}
use Rattle.board_core.specs.View.{cause_view}
use Rattle.board_core.proofs.Turns.{begins-take}
use Rattle.kind_engine.specs.Halts.{halted_grounds}
use Rattle.kind_engine.proofs.Histories.{true-later, depth-later}
use Rattle.kind_engine.proofs.turning.report.Goals as goal

pub post_halted-requires : goal.post_halted-requires
post_halted-requires g c =
    let b = g.B.BoardSeat in
    let m = system_view c.args.subject.now.system in
    let plan = c.args.subject.now.plan in
    let seen = b.seen c.args.seat.now in
    let front = b.front c.args.seat.now in
    let h = c.in-Halted.halted in
    let halted = rw c.in-Halted.is at c.requires.task in
    let says = spent c.args.subject.now.engine c.args.property (cause_view h.cause) (halted_grounds h) in
    record {
      true_one = subst (λ (k : Machine). IsTrueAfter k (b.plan c.args.seat.now) seen says) (sym c.requires.book.0)
          (subst (λ (k : Plan). IsTrueAfter m k seen says) (sym c.requires.book.1)
          (true-later m plan (take front seen) seen says (begins-take front seen) halted.0));
      first = halted.1;
    }

pub post_spent-requires : goal.post_spent-requires
post_spent-requires g c =
    let b = g.B.BoardSeat in
    let seen = b.seen c.args.seat.now in
    let front = b.front c.args.seat.now in
    let h = rw c.in-Ended.is at c.requires.task in
    record {
      true_one = (
        subst (λ (k : Machine). c.args.property < length k.properties) (sym c.requires.book.0) h.0,
        (
          ap (λ (k : Plan). k.depth) (sym c.requires.book.1),
          depth-later (take front seen) seen c.args.subject.now.engine c.args.property c.args.subject.now.plan.depth
              (begins-take front seen) h.1,
        ),
      );
      first = tt;
    }
