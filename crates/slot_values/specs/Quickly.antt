-- Evaluation by values alone: what the code does first. It is proved to be `value_within`.
use Rattle.std.specs.Prelude.{Bool, true, false, Option, Some, None, option_map}
use Rattle.lus_tree.specs.declared.expression.Operator.{Operator}
use Rattle.kind_num.specs.declared.Past.{Past}
use Rattle.lus_meaning.specs.Value.{Value, is, not_value, minus_value, apply, choose}
use Rattle.lus_evaluation.specs.Past.{past_of_values, past_of_minus}
use Rattle.slot_values.specs.Resolution.{Resolution, known, slot, negated, opposite, combined, chosen, started, sampled, merged, latest}
use Rattle.slot_values.specs.Evaluated.{SlotValues, only_where, is_there}

-- what is made of a value, if that is outside or not
abbrev pub unless_past : Option Past → Value → Option Value
unless_past None v = Some v
unless_past (Some x) v = None

-- of operands that are outside themselves nothing is made

abbrev pub minus_of : Option Value → Option Value
minus_of None = None
minus_of (Some v) = unless_past (past_of_minus v) (minus_value v)

abbrev pub applied : Operator → Option Value → Option Value → Option Value
applied o None w = None
applied o (Some v) None = None
applied o (Some v) (Some w) = unless_past (past_of_values o v w) (apply o v w)

abbrev pub chosen_of : Value → Option Value → Option Value → Option Value
chosen_of c None w = None
chosen_of c (Some v) None = None
chosen_of c (Some v) (Some w) = Some (choose c v w)

abbrev pub choice_of : Option Value → Option Value → Option Value → Option Value
choice_of None v w = None
choice_of (Some c) v w = chosen_of c v w

-- a value that is looked for only if nothing is outside
abbrev pub beside : Option Value → Value → Option Value
beside None v = None
beside (Some u) v = Some v

abbrev pub quickly : SlotValues → Bool → Resolution → Option Value
quickly s on (known v) = Some (only_where on v)
quickly s on (slot k) = Some (only_where on (s k))
quickly s on (negated a) = option_map not_value (quickly s on a)
quickly s on (opposite p a) = minus_of (quickly s on a)
quickly s on (combined p o a b) = applied o (quickly s on a) (quickly s on b)
quickly s on (chosen a b d) = choice_of (quickly s on a) (quickly s on b) (quickly s on d)
quickly s on (started k a b) = chosen_of (s k) (quickly s on a) (quickly s on b)
quickly s on (sampled k c a) = option_map (only_where (is c (s k))) (quickly s (is_there (s k)) a)
quickly s on (merged k a b) = chosen_of (s k) (quickly s (is true (s k)) a) (quickly s (is false (s k)) b)
quickly s on (latest a b o h) = beside (quickly s on a) (only_where on (choose (s b) (s o) (s h)))
