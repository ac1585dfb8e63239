use Rattle.std.specs.Prelude.{◌≡◌, drop}
use Rattle.board_core.specs.Books.{history_of, machine_of, plan_of}
use Rattle.board_core.specs.Plays.{IsPlaying, table, new_players}
use Rattle.board_core.proofs.Turns.{MovesOnto}
use Rattle.board_core.proofs.playing.play_order.Given as goal

abbrev pub invariant-loop-number : goal.invariant-loop-number
invariant-loop-number g l =
    let a = g.A.Engine in
    let b = g.B.Engine in
    record {
      first_number : a.number l.a ≡ a.number l.fn.a;
      first_machine : a.machine l.a ≡ a.machine l.fn.a;
      first_plan : a.plan l.a ≡ a.plan l.fn.a;
      second_number : b.number l.b ≡ b.number l.fn.b;
      second_machine : b.machine l.b ≡ b.machine l.fn.b;
      second_plan : b.plan l.b ≡ b.plan l.fn.b;
      machine : machine_of l.book ≡ machine_of l.fn.book;
      plan : plan_of l.book ≡ plan_of l.fn.book;
      first : IsPlaying (history_of l.book) (machine_of l.book) 0 (a.number l.a) (a.known l.a) l.players.first;
      second : IsPlaying (history_of l.book) (machine_of l.book) 1 (b.number l.b) (b.known l.b) l.players.second;
      turns : MovesOnto a.turn_gives b.turn_gives (drop l.number-index l.order) l.order
          (table l.a l.b l.players (history_of l.book)) (table l.fn.a l.fn.b new_players (history_of l.fn.book));
    }
