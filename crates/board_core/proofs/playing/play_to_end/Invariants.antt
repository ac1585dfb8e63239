use Rattle.std.proofs.Common.{◌≡◌}
use Rattle.board_core.specs.Books.{history_of, machine_of, plan_of}
use Rattle.board_core.specs.Seats.{Begins}
use Rattle.board_core.specs.Plays.{IsPlaying, place}
use Rattle.board_core.proofs.Turns.{RunsOnto}
use Rattle.board_core.proofs.playing.play_to_end.Given as goal

abbrev pub invariant-loop-player : goal.invariant-loop-player
invariant-loop-player g l =
    let e = g.E.Engine in
    record {
      number : e.number l.engine ≡ e.number l.fn.engine;
      own_machine : e.machine l.engine ≡ e.machine l.fn.engine;
      own_plan : e.plan l.engine ≡ e.plan l.fn.engine;
      machine : machine_of l.book ≡ machine_of l.fn.book;
      plan : plan_of l.book ≡ plan_of l.fn.book;
      grows : Begins (history_of l.fn.book) (history_of l.book);
      playing : IsPlaying (history_of l.book) (machine_of l.book) l.seat (e.number l.engine) (e.known l.engine) l.player;
      turns : RunsOnto e.turn_gives l.seat (place l.engine l.player (history_of l.book))
          (place l.fn.engine l.fn.player (history_of l.fn.book));
    }

abbrev pub decreases-loop-player : goal.decreases-loop-player
decreases-loop-player g l = g.E.Engine.steps l.engine
