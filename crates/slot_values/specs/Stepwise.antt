-- Evaluation step by step: what the code does. It is proved to be `evaluated`.
use Rattle.std.specs.Prelude.{Bool, true, false, Result, Ok, Err}
use Rattle.lus_tree.specs.declared.place.Pos.{Pos}
use Rattle.lus_tree.specs.declared.expression.Operator.{Operator}
use Rattle.lus_meaning.specs.Value.{Value, is, not_value, minus_value, apply, choose}
use Rattle.lus_evaluation.specs.Past.{past_of_values, past_of_minus}
use Rattle.slot_values.specs.declared.resolved.PastAt.{PastAt}
use Rattle.slot_values.specs.Resolution.{Resolution, known, slot, negated, opposite, combined, chosen, started, sampled, merged, latest}
use Rattle.slot_values.specs.Evaluated.{SlotValues, only_where, is_there, told, first_or}

-- an operation on values, or its past
abbrev pub operated : Pos → Operator → Value → Value → Result Value PastAt
operated p o v w = first_or (told p (past_of_values o v w)) (apply o v w)

abbrev pub minus_at : Pos → Value → Result Value PastAt
minus_at p v = first_or (told p (past_of_minus v)) (minus_value v)

abbrev pub and_then : Result Value PastAt → (Value → Result Value PastAt) → Result Value PastAt
and_then (Ok v) f = f v
and_then (Err p) f = Err p

abbrev pub stepwise : SlotValues → Bool → Resolution → Result Value PastAt
stepwise s on (known v) = Ok (only_where on v)
stepwise s on (slot k) = Ok (only_where on (s k))
stepwise s on (negated a) = and_then (stepwise s on a) (λ v. Ok (not_value v))
stepwise s on (opposite p a) = and_then (stepwise s on a) (minus_at p)
stepwise s on (combined p o a b) = and_then (stepwise s on a) (λ v. and_then (stepwise s on b) (operated p o v))
stepwise s on (chosen a b d) =
    and_then (stepwise s on a) (λ c. and_then (stepwise s on b) (λ v. and_then (stepwise s on d) (λ w. Ok (choose c v w))))
stepwise s on (started k a b) =
    and_then (stepwise s on a) (λ v. and_then (stepwise s on b) (λ w. Ok (choose (s k) v w)))
stepwise s on (sampled k c a) = and_then (stepwise s (is_there (s k)) a) (λ v. Ok (only_where (is c (s k)) v))
stepwise s on (merged k a b) =
    and_then (stepwise s (is true (s k)) a) (λ v. and_then (stepwise s (is false (s k)) b) (λ w. Ok (choose (s k) v w)))
stepwise s on (latest a b o h) = and_then (stepwise s on a) (λ v. Ok (only_where on (choose (s b) (s o) (s h))))
