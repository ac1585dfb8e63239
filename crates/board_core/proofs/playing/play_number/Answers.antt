use Rattle.std.proofs.Common.{rules, refl}
use Rattle.board_core.specs.Books.{history_of, machine_of}
use Rattle.board_core.specs.Plays.{of_first, of_second}
use Rattle.board_core.proofs.Turns.{playing-later}
use Rattle.board_core.proofs.playing.play_number.Goals as goal

-- src/playing.rt:68:1
pub returns-in_ok-next-clause-playing : goal.returns-in_ok-next-clause-playing
returns-in_ok-next-clause-playing g c =
    let old = c.args.book.now in
    let now' = c.play_turn.new.book in (
      c.in_ok-next.ensures.playing,
      playing-later (history_of old) (history_of now') (machine_of old) (machine_of now') 1
          (g.B.Engine.number c.args.b.now) (g.B.Engine.known c.args.b.now) c.args.players.second
          c.in_ok-next.ensures.book.0 c.in_ok-next.ensures.grows c.requires.playing.1,
    )

-- src/playing.rt:68:1
pub returns-in_ok-next-2-clause-playing : goal.returns-in_ok-next-2-clause-playing
returns-in_ok-next-2-clause-playing g c =
    let old = c.args.book.now in
    let now' = c.play_turn-then-number-eq1.new.book in (
      playing-later (history_of old) (history_of now') (machine_of old) (machine_of now') 0
          (g.A.Engine.number c.args.a.now) (g.A.Engine.known c.args.a.now) c.args.players.first
          c.in_ok-next-2.ensures.book.0 c.in_ok-next-2.ensures.grows c.requires.playing.0,
      c.in_ok-next-2.ensures.playing,
    )

-- src/playing.rt:68:1
pub returns-in_ok-next-clause-turn : goal.returns-in_ok-next-clause-turn
returns-in_ok-next-clause-turn g c = of_first (search rules) c.in_ok-next.ensures.turn refl refl

-- src/playing.rt:68:1
pub returns-in_ok-next-2-clause-turn : goal.returns-in_ok-next-2-clause-turn
returns-in_ok-next-2-clause-turn g c = of_second (search rules) c.in_ok-next-2.ensures.turn refl refl
