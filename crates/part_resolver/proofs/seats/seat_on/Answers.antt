use Rattle.std.proofs.Common.{rules, ◌<◌, length}
use Rattle.sys_tables.specs.Views.{tables_view}
use Rattle.part_resolver.proofs.Rooms.{led_step, room_step}
use Rattle.part_resolver.proofs.seats.seat_on.Goals as goal

pub loop-number-preserved : goal.loop-number-preserved
loop-number-preserved c =
    let l : c.loop-number.number-index < length c.args.way.now = search rules in
    record {
      led = led_step (tables_view c.args.tables.all.now) c.args.tables.missing c.loop-number.seat c.call_seat-seat.result c.args.way.now c.loop-number.number-index
          _ _ c.call_seat-seat.ensures l (search rules) c.loop-number.invariant.led;
      room = room_step (tables_view c.args.tables.all.now) c.args.tables.missing c.loop-number.seat c.call_seat-seat.result _ c.call_seat-seat.ensures
          c.loop-number.invariant.room;
    }
