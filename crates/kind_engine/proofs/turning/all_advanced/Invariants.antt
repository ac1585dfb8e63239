use Rattle.std.specs.Prelude.{◌≡◌, ◌+◌, suc, length}
use Rattle.std.specs.Vec.Iter.{into_iter_items, into_iter_len}
use Rattle.sys_terms.specs.View.{system_view}
use Rattle.board_core.specs.Seats.{Begins}
use Rattle.cert_rules.specs.View.{cites_view}
use Rattle.kind_engine.specs.Lemmas.{AreLemmas}
use Rattle.kind_engine.specs.Posts.{Grows, IsPost}
use Rattle.kind_engine.specs.Tasks.{AreTasks}
use Rattle.kind_engine.proofs.turning.all_advanced.Given as goal

-- the tasks of the first properties are those after the turn, and the rest are still those before it
abbrev pub invariant-loop-task : goal.invariant-loop-task
invariant-loop-task g l =
    let m = system_view l.subject.system in
    let plan = l.subject.plan in
    let b = g.B.BoardSeat in
    let rest = into_iter_items l.task-iterator in
    record {
      done : AreTasks m plan (b.seen l.seat) l.subject.engine (suc l.turn) 0 l.next.items;
      left : AreTasks m plan (b.seen l.seat) l.subject.engine l.turn (length l.next.items) rest;
      lemmas : AreLemmas m (b.seen l.seat) l.lemmas.front (cites_view l.lemmas.cites.items);
      count : length l.next.items + length rest ≡ length m.properties;
      rest : into_iter_len l.task-iterator ≡ length rest;
      seen : Begins (b.seen l.fn.seat) (b.seen l.seat);
      grown : Grows (IsPost l.lemmas.front) (b.number l.fn.seat) (b.seen l.fn.seat) (b.seen l.seat);
      number : b.number l.seat ≡ b.number l.fn.seat;
      machine : b.machine l.seat ≡ b.machine l.fn.seat;
      plan : b.plan l.seat ≡ b.plan l.fn.seat;
      lent : b.lent l.seat ≡ b.lent l.fn.seat;
      front : b.front l.seat ≡ b.front l.fn.seat;
      reads : b.reads l.seat ≡ b.reads l.fn.seat;
    }
