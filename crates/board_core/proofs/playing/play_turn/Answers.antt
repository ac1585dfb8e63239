use Rattle.std.proofs.Common.{rules, length, take}
use Rattle.board_core.specs.Books.{history_of, machine_of}
use Rattle.board_core.specs.Plays.{one_turn}
use Rattle.board_core.proofs.Turns.{ended-causes, begins-take, last-of}
use Rattle.board_core.proofs.playing.play_turn.Goals as goal

-- src/playing.rt:35:1
pub returns-clause-playing : goal.returns-clause-playing
returns-clause-playing g c =
    let seat = c.turn.new.seat in
    let seen = history_of seat.book.now in
    record {
      known_front = search rules;
      read = search rules;
      causes = λ e.
          (let h = ended-causes c.in_ok-progress.progress (take seat.front seen) seen seat.number (g.E.Engine.number c.turn.new.self)
          (length (machine_of seat.book.now).properties) (begins-take seat.front seen)
          c.in_ok-progress.ensures.decided c.in_ok-progress.ensures.spent (search rules)
          in search rules);
    }

-- src/playing.rt:35:1
pub returns-clause-turn : goal.returns-clause-turn
returns-clause-turn g c =
    one_turn c.in_ok-progress.progress (search rules) (search rules)
    (last-of c.in_ok-progress.progress c.ne.result (λ e. search rules) (λ e. search rules))
