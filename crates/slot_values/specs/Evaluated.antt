-- What an expression over slots is worth in a row of values, and which of its operations have results outside 128 bits.
use Rattle.std.specs.Prelude.{ℕ, Bool, true, false, not, cond, List, [], ◌∷◌, ◌++◌, Option, Some, None, Result, Ok, Err, slice_get, option_map, unwrap_or}
use Rattle.lus_tree.specs.declared.place.Pos.{Pos}
use Rattle.kind_num.specs.declared.Past.{Past}
use Rattle.lus_meaning.specs.declared.value.Value.{Value as CodeValue}
use Rattle.lus_meaning.specs.Value.{Value, absent, is, is_absent, flag, whole, not_value, minus_value, apply, choose}
use Rattle.lus_meaning.specs.TraceView.{entry_view}
use Rattle.lus_evaluation.specs.Past.{past_of_values, past_of_minus}
use Rattle.slot_values.specs.declared.resolved.PastAt.{PastAt}
use Rattle.slot_values.specs.declared.slot.SlotValue.{SlotValue}
use Rattle.slot_values.specs.declared.slot.SlotValue.TheVariants as cell
use Rattle.slot_values.specs.Resolution.{Resolution, known, slot, negated, opposite, combined, chosen, started, sampled, merged, latest}

-- the value of each slot of a frame, by its number; absent where the clock of what it stands for is off
abbrev pub SlotValues : Type 0
SlotValues = ℕ → Value

abbrev pub slot_view : SlotValue → Value
slot_view cell.Absent = absent
slot_view (cell.Truth b) = flag b
slot_view (cell.Whole n) = whole n

-- of a row of values; behind its end all are absent
abbrev pub slots_in : List SlotValue → SlotValues
slots_in vs k = unwrap_or (option_map slot_view (slice_get vs k)) absent

abbrev pub only_where : Bool → Value → Value
only_where on v = cond on v absent

abbrev pub is_there : Value → Bool
is_there v = not (is_absent v)

-- The value of an expression whose own clock is on or not: absent where it is not. The operand of `when` is on the clock of the name, which is on where the
-- name has a value; a branch of a merge is on where the name has that truth value.
abbrev pub worth : SlotValues → Bool → Resolution → Value
worth s on (known v) = only_where on v
worth s on (slot k) = only_where on (s k)
worth s on (negated a) = not_value (worth s on a)
worth s on (opposite p a) = minus_value (worth s on a)
worth s on (combined p o a b) = apply o (worth s on a) (worth s on b)
worth s on (chosen a b d) = choose (worth s on a) (worth s on b) (worth s on d)
worth s on (started k a b) = choose (s k) (worth s on a) (worth s on b)
worth s on (sampled k c a) = only_where (is c (s k)) (worth s (is_there (s k)) a)
worth s on (merged k a b) = choose (s k) (worth s (is true (s k)) a) (worth s (is false (s k)) b)
worth s on (latest a b o h) = only_where on (choose (s b) (s o) (s h))

abbrev pub told : Pos → Option Past → List PastAt
told p None = []
told p (Some x) = record { at = p; past = x } ∷ []

-- its operations with results outside 128 bits, in the order of evaluation: operands from left to right before their operator
abbrev pub outside : SlotValues → Bool → Resolution → List PastAt
outside s on (known v) = []
outside s on (slot k) = []
outside s on (negated a) = outside s on a
outside s on (opposite p a) = outside s on a ++ told p (past_of_minus (worth s on a))
outside s on (combined p o a b) = outside s on a ++ outside s on b ++ told p (past_of_values o (worth s on a) (worth s on b))
outside s on (chosen a b d) = outside s on a ++ outside s on b ++ outside s on d
outside s on (started k a b) = outside s on a ++ outside s on b
outside s on (sampled k c a) = outside s (is_there (s k)) a
outside s on (merged k a b) = outside s (is true (s k)) a ++ outside s (is false (s k)) b
outside s on (latest a b o h) = outside s on a

-- the value where no operation is outside, else the first one that is
abbrev pub first_or : List PastAt → Value → Result Value PastAt
first_or [] v = Ok v
first_or (p ∷ ps) v = Err p

abbrev pub evaluated : SlotValues → Bool → Resolution → Result Value PastAt
evaluated s on e = first_or (outside s on e) (worth s on e)

-- an answer of the code
abbrev pub answer_view : Result (Option CodeValue) PastAt → Result Value PastAt
answer_view (Ok v) = Ok (entry_view v)
answer_view (Err p) = Err p
