-- Conditions, which are asked at each instant.
use Rattle.std.specs.Prelude.{Bool, true, false, ◌&&◌, ◌||◌, List, [], ◌∷◌, map}
use Rattle.lus_meaning.specs.Value.{is}
use Rattle.slot_values.specs.Resolution.{Resolution, resolved_view}
use Rattle.slot_values.specs.Evaluated.{SlotValues, worth, outside}
use Rattle.slot_rows.specs.Table.{is_any, unless}
use Rattle.slot_replay.specs.declared.conditions.Conditions.{Conditions as CodeConditions}

-- those by which instants are lawful, and the properties
pub record Conditions : Type 0 where
  pub legal : List Resolution
  pub properties : List Resolution

-- A condition is true where it is worth that. Where one of its operations is outside 128 bits it isn't.
abbrev pub is_true : SlotValues → Resolution → Bool
is_true s e = is true (unless (outside s true e) (worth s true e))

abbrev pub all_true : SlotValues → List Resolution → Bool
all_true s [] = true
all_true s (e ∷ es) = is_true s e && all_true s es

-- whether one has an operation outside 128 bits
abbrev pub any_outside : SlotValues → List Resolution → Bool
any_outside s [] = false
any_outside s (e ∷ es) = is_any (outside s true e) || any_outside s es

abbrev pub conditions_view : CodeConditions → Conditions
conditions_view q = record { legal = map resolved_view q.legal.items; properties = map resolved_view q.properties.items }
