use Rattle.std.proofs.Common.{rules}
use Rattle.board_core.specs.Books.{history_of, machine_of}
use Rattle.board_core.specs.Plays.{table, new_players}
use Rattle.board_core.proofs.Turns.{start-playing, moves-onto}
use Rattle.board_core.proofs.playing.play_order.Goals as goal

-- src/playing.rt:124:5
pub loop-number-init : goal.loop-number-init
loop-number-init g c =
    let book = c.args.book.now in
    let a = c.args.a.now in
    let b = c.args.b.now in
    let f = start-playing (history_of book) (machine_of book) 0 (g.A.Engine.number a) (g.A.Engine.known a) c.requires.first.2 in
    let s = start-playing (history_of book) (machine_of book) 1 (g.B.Engine.number b) (g.B.Engine.known b) c.requires.second.2 in
    search rules

-- src/playing.rt:132:5
pub loop-number-preserved : goal.loop-number-preserved
loop-number-preserved g c =
    let ensures = c.in_ok-players.ensures in
    let invariant = c.loop-number.invariant in
    let turns = moves-onto g.A.Engine.turn_gives g.B.Engine.turn_gives c.args.order.now c.args.order.now c.loop-number.number-index
    (table c.args.a.now c.args.b.now new_players (history_of c.args.book.now))
    (table c.loop-number.a c.loop-number.b c.loop-number.players (history_of c.loop-number.book))
    (table c.play_number.new.a c.play_number.new.b c.in_ok-players.players (history_of c.play_number.new.book))
    c.loop-number.invariant.turns c.loop-number-test.true c.in_ok-players.ensures.turn in
    search rules
