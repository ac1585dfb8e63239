-- What an expression comes to, with no place of an operation.
use Rattle.std.specs.Prelude.{Bool, List, [], ◌∷◌, Option, Some, None}
use Rattle.lus_meaning.specs.Value.{Value, absent, flag, whole}
use Rattle.slot_values.specs.declared.outcome.Outcome.{Outcome}
use Rattle.slot_values.specs.declared.outcome.Outcome.TheVariants as o
use Rattle.slot_values.specs.declared.resolved.PastAt.{PastAt}
use Rattle.slot_values.specs.Resolution.{Resolution}
use Rattle.slot_values.specs.Evaluated.{SlotValues, worth, outside}

-- the value where no operation is outside 128 bits, else none
abbrev pub if_none : List PastAt → Value → Option Value
if_none [] v = Some v
if_none (p ∷ ps) v = None

abbrev pub value_within : SlotValues → Bool → Resolution → Option Value
value_within s on e = if_none (outside s on e) (worth s on e)

abbrev pub outcome_view : Outcome → Option Value
outcome_view o.Outside = None
outcome_view o.Absent = Some absent
outcome_view (o.Truth b) = Some (flag b)
outcome_view (o.Whole n) = Some (whole n)
