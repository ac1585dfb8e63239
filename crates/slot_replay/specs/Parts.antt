-- The parts of an instant, in the order of evaluation.
use Rattle.std.specs.Prelude.{List, [], ◌∷◌, ◌++◌, map, Option, Some, None}
use Rattle.std.specs.declared.alloc.Global.{Global}
use Rattle.std.specs.declared.vec.Vec.{Vec}
use Rattle.slot_values.specs.Resolution.{Resolution, resolved_view}
use Rattle.slot_values.specs.Evaluated.{SlotValues, outside}
use Rattle.slot_values.specs.declared.resolved.PastAt.{PastAt}
use Rattle.slot_sources.specs.declared.source.Switch.{Switch}
use Rattle.slot_sources.specs.Rows.{is_on}
use Rattle.slot_replay.specs.declared.parts.PartAt.{PartAt}

-- an expression that is evaluated where its clock is on
pub record Part : Type 0 where
  pub clock : Switch
  pub expression : Resolution

-- their operations outside 128 bits, part by part
abbrev pub pasts_of : SlotValues → List Part → List PastAt
pasts_of s [] = []
pasts_of s (p ∷ ps) = outside s (is_on s p.clock) p.expression ++ pasts_of s ps

abbrev pub part_view : PartAt → Part
part_view p = record { clock = p.clock; expression = resolved_view p.expression }

-- parts that are kept, where they are made
abbrev pub kept_view : Option (Vec PartAt Global) → Option (List Part)
kept_view None = None
kept_view (Some v) = Some (map part_view v.items)
