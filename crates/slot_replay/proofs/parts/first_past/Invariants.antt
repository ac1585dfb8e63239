use Rattle.std.proofs.Common.{◌≡◌, map, drop}
use Rattle.slot_values.specs.Evaluated.{slots_in}
use Rattle.slot_replay.specs.Parts.{part_view, pasts_of}
use Rattle.slot_replay.proofs.parts.first_past.Given as goal

abbrev pub invariant-loop-part : goal.invariant-loop-part
invariant-loop-part l = pasts_of (slots_in l.row) (map part_view (drop l.part-index l.parts)) ≡ pasts_of (slots_in l.row) (map part_view l.parts)
