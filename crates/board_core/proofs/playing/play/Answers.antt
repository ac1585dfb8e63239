use Rattle.std.proofs.Common.{◌∙◌, subst}
use Rattle.board_core.specs.Books.{history_of, machine_of}
use Rattle.board_core.specs.Plays.{AreMoves, table, new_players}
use Rattle.board_core.proofs.Turns.{playing-later, causes-later}
use Rattle.board_core.proofs.playing.play.Goals as goal

-- src/playing.rt:185:5
pub play_to_end-requires-2-clause-playing : goal.play_to_end-requires-2-clause-playing
play_to_end-requires-2-clause-playing g c =
    let old = c.play_order.new.book in
    let now' = c.play_to_end.new.book in
    playing-later (history_of old) (history_of now') (machine_of old) (machine_of now') 1
    (g.B.Engine.number c.play_order.new.b) (g.B.Engine.known c.play_order.new.b) c.in_ok-players.players.second
    c.in_ok-play_to_end.ensures.book.0 c.in_ok-play_to_end.ensures.grows c.in_ok-players.ensures.playing.1

-- src/playing.rt:163:1
pub returns-clause-first : goal.returns-clause-first
returns-clause-first g c =
    let old = c.play_order.new.book in
    let mid = c.play_to_end.new.book in
    let now' = c.play_to_end-2.new.book in
    let first = c.in_ok-play_to_end.ensures in
    let second = c.in_ok-play_to_end-2.ensures in
    causes-later (history_of mid) (history_of now') (machine_of old) (machine_of now') 0
    (g.A.Engine.number c.play_order.new.a) (g.A.Engine.number c.args.a.now)
    (second.book.0 ∙ first.book.0) c.in_ok-players.ensures.first.0 second.grows first.causes

-- src/playing.rt:163:1
pub returns-clause-turns : goal.returns-clause-turns
returns-clause-turns g c =
    record {
      middle = table c.play_order.new.a c.play_order.new.b c.in_ok-players.players (history_of c.play_order.new.book);
      first_history = history_of c.play_to_end.new.book;
      moves = subst (λ history. AreMoves g.A.Engine.turn_gives g.B.Engine.turn_gives c.args.order.now
          (table c.args.a.now c.args.b.now new_players history)
          (table c.play_order.new.a c.play_order.new.b c.in_ok-players.players (history_of c.play_order.new.book)))
          c.open-book.ensures.entries c.in_ok-players.ensures.turns;
      first_runs = c.in_ok-play_to_end.ensures.turns;
      second_runs = c.in_ok-play_to_end-2.ensures.turns;
    }
