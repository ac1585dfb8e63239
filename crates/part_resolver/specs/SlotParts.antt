-- Parts over slots: by the instance of the analysed declaration, and by the sight of each frame.
use Rattle.std.specs.Prelude.{ℕ, List, [], map, Option, Some, None, slice_get}
use Rattle.lus_meaning.specs.Scene.{Instance}
use Rattle.lus_evaluation.specs.Part.{Part}
use Rattle.sys_texts.specs.Sights.{Sight}
use Rattle.sys_tables.specs.Tabled.{Tabled}
use Rattle.sys_tables.specs.Numbers.{sight_at}
use Rattle.slot_sources.specs.Parts.{part_resolution, part_switch}
use Rattle.slot_replay.specs.Parts.{Part as PartAt}
use Rattle.frame_sources.specs.Resolved.{Asked, resolved_by}
use Rattle.frame_sources.specs.Sourced.{switch_by}
use Rattle.frame_sources.specs.Walked.{modes_within}
use Rattle.part_resolver.specs.declared.seats.Seat.{Seat}
use Rattle.part_resolver.specs.Seats.{seat_on}

-- a part of an instant of a declaration, over the slots of that
abbrev pub over_slots : Instance → Part → PartAt
over_slots i q = record { clock = part_switch i q; expression = part_resolution i q }

-- ---- by sights

-- where nothing is
abbrev pub blank : ℕ → Sight
blank missing = record {
  beat = missing;
  missing = missing;
  streams = 0;
  constant = λ x. None;
  stream = λ x. None;
  memories = [];
  starts = [];
  calls = [];
}

abbrev pub sight_there : ℕ → Seat → Option Tabled → Sight
sight_there missing s None = blank missing
sight_there missing s (Some t) = sight_at t s.way s.base missing

abbrev pub modes_there : List Tabled → ℕ → Seat → Option Tabled → List Asked
modes_there ts missing s None = []
modes_there ts missing s (Some t) = modes_within s.depth ts missing t s.way s.base

-- of a frame that is seen so, where these modes are known
abbrev pub part_over : Sight → List Asked → Part → PartAt
part_over s ms q = record { clock = switch_by s q.clock; expression = resolved_by s ms q.expression }

abbrev pub part_at : List Tabled → ℕ → Seat → Part → PartAt
part_at ts missing s q =
    part_over (sight_there missing s (slice_get ts s.place)) (modes_there ts missing s (slice_get ts s.place)) q

-- each of the frame at the end of its way from there on
abbrev pub parts_at : List Tabled → ℕ → Seat → List Part → List PartAt
parts_at ts missing root qs = map (λ q. part_at ts missing (seat_on ts missing root q.way) q) qs
