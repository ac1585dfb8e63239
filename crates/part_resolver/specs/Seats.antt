-- Where frames are, by the tables of a program's declarations: each by the calls on the way to it.
use Rattle.std.specs.Prelude.{ℕ, zero, suc, List, [], ◌∷◌, length, Option, Some, None, slice_get}
use Rattle.lus_limits.specs.Calls.{way_of}
use Rattle.lus_limits.specs.declared.calls.Way.TheVariants.{Plain}
use Rattle.sys_texts.specs.Sights.{counted_from_one}
use Rattle.sys_frames.specs.Walked.{HasRoomWithin, IfThere}
use Rattle.sys_tables.specs.Tabled.{Linked, Tabled}
use Rattle.sys_tables.specs.Numbers.{behind_own, frame_base}
use Rattle.part_resolver.specs.declared.seats.Seat.{Seat}

-- no number of the frame, nor of those of its calls, is 2^32 or more
abbrev pub HasRoomAt : List Tabled → Seat → Type 0
HasRoomAt ts s = IfThere (HasRoomWithin s.depth ts) (slice_get ts s.place) s.way s.base

-- of no frame: behind all declarations
abbrev pub nowhere : List Tabled → ℕ → Seat
nowhere ts missing = record { depth = 0; place = length ts; way = Plain; base = missing }

-- of the frame of a call, where the calls of its caller stand from there on, and are nested in it no deeper than said
abbrev pub seat_of : List Tabled → ℕ → ℕ → ℕ → Linked → Seat
seat_of ts missing zero from q = nowhere ts missing
seat_of ts missing (suc d) from q =
    record { depth = d; place = q.place; way = way_of q.site.manner; base = frame_base from q }

abbrev pub seat_or_nowhere : List Tabled → ℕ → ℕ → ℕ → Option Linked → Seat
seat_or_nowhere ts missing d from None = nowhere ts missing
seat_or_nowhere ts missing d from (Some q) = seat_of ts missing d from q

-- of the call with that number, of a frame of that declaration
abbrev pub called : List Tabled → ℕ → Seat → Option Tabled → ℕ → Seat
called ts missing s None k = nowhere ts missing
called ts missing s (Some t) k =
    seat_or_nowhere ts missing s.depth (behind_own s.way t s.base) (counted_from_one t.calls k)

abbrev pub call_seat : List Tabled → ℕ → Seat → ℕ → Seat
call_seat ts missing s k = called ts missing s (slice_get ts s.place) k

-- at the end of a way of calls
abbrev pub seat_on : List Tabled → ℕ → Seat → List ℕ → Seat
seat_on ts missing s [] = s
seat_on ts missing s (k ∷ w) = seat_on ts missing (call_seat ts missing s k) w
