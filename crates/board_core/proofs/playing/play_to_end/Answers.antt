use Rattle.std.proofs.Common.{◌∙◌}
use Rattle.board_core.specs.Books.{history_of}
use Rattle.board_core.specs.Plays.{place}
use Rattle.board_core.proofs.Turns.{begins-begins, one-more, no-more}
use Rattle.board_core.proofs.playing.play_to_end.Goals as goal

-- src/playing.rt:161:13
pub returns-then-player-clause-turns : goal.returns-then-player-clause-turns
returns-then-player-clause-turns g c =
    no-more g.E.Engine.turn_gives c.args.seat (place c.args.engine.now c.args.player (history_of c.args.book.now))
    (place c.loop-player.engine c.loop-player.player (history_of c.loop-player.book))
    (place c.play_turn.new.engine c.in_ok-player.player (history_of c.play_turn.new.book))
    c.loop-player.invariant.turns c.in_ok-player.ensures.turn c.if-player.true

-- src/playing.rt:158:5
pub loop-player-preserved : goal.loop-player-preserved
loop-player-preserved g c =
    let before = c.loop-player.invariant in
    let after = c.in_ok-player.ensures in
    record {
      number = after.engine.0 ∙ before.number;
      own_machine = after.engine.1 ∙ before.own_machine;
      own_plan = after.engine.2 ∙ before.own_plan;
      machine = after.book.0 ∙ before.machine;
      plan = after.book.1 ∙ before.plan;
      grows = begins-begins (history_of c.args.book.now) (history_of c.loop-player.book) (history_of c.play_turn.new.book)
          before.grows after.grows;
      playing = after.playing;
      turns = one-more g.E.Engine.turn_gives c.args.seat (place c.args.engine.now c.args.player (history_of c.args.book.now))
          (place c.loop-player.engine c.loop-player.player (history_of c.loop-player.book))
          (place c.play_turn.new.engine c.in_ok-player.player (history_of c.play_turn.new.book)) before.turns after.turn;
    }
