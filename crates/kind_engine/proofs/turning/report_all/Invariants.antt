use Rattle.std.specs.Prelude.{ℕ, ◌≡◌, ◌<◌, true, false}
use Rattle.board_core.specs.Seats.{Begins, has_cause}
use Rattle.board_core.specs.Verdicts.{decides}
use Rattle.kind_engine.specs.Posts.{Grows, IsPost}
use Rattle.kind_engine.proofs.turning.report_all.Given as goal

-- the causes of the first properties are posted
abbrev pub invariant-loop-property : goal.invariant-loop-property
invariant-loop-property g l =
    let b = g.B.BoardSeat in
    record {
      causes : (q : ℕ) → q < l.property → decides q (b.seen l.fn.seat) ≡ false
          → has_cause (b.number l.fn.seat) l.subject.engine q (b.seen l.seat) ≡ true;
      seen : Begins (b.seen l.fn.seat) (b.seen l.seat);
      grown : (least : ℕ) → Grows (IsPost least) (b.number l.fn.seat) (b.seen l.fn.seat) (b.seen l.seat);
      number : b.number l.seat ≡ b.number l.fn.seat;
      machine : b.machine l.seat ≡ b.machine l.fn.seat;
      plan : b.plan l.seat ≡ b.plan l.fn.seat;
      lent : b.lent l.seat ≡ b.lent l.fn.seat;
      front : b.front l.seat ≡ b.front l.fn.seat;
      reads : b.reads l.seat ≡ b.reads l.fn.seat;
    }
