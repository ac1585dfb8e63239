use Rattle.std.proofs.Common.{◌≡◌, drop}
use Rattle.sys_tables.specs.Views.{tables_view}
use Rattle.part_resolver.specs.Seats.{HasRoomAt, seat_on}
use Rattle.part_resolver.proofs.seats.seat_on.Given as goal

-- the rest of the way leads from here to where the whole way leads
abbrev pub invariant-loop-number : goal.invariant-loop-number
invariant-loop-number l = record {
  led : seat_on (tables_view l.tables.all.now) l.tables.missing l.seat (drop l.number-index l.way)
      ≡ seat_on (tables_view l.tables.all.now) l.tables.missing l.fn.root l.way;
  room : HasRoomAt (tables_view l.tables.all.now) l.seat;
}
