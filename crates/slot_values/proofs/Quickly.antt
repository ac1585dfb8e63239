-- Evaluation by values alone gives the value where no operation is outside.
use Rattle.std.proofs.Common.{◌≡◌, Bool, true, false, List, [], ◌∷◌, ◌++◌, Option, Some, None, option_map, refl}
use Rattle.lus_tree.specs.declared.place.Pos.{Pos}
use Rattle.lus_tree.specs.declared.expression.Operator.{Operator}
use Rattle.kind_num.specs.declared.Past.{Past}
use Rattle.lus_meaning.specs.Value.{Value, is, not_value, minus_value, apply, choose}
use Rattle.lus_evaluation.specs.Past.{past_of_values, past_of_minus}
use Rattle.slot_values.specs.declared.resolved.PastAt.{PastAt}
use Rattle.slot_values.specs.Resolution.{Resolution, known, slot, negated, opposite, combined, chosen, started, sampled, merged, latest}
use Rattle.slot_values.specs.Evaluated.{SlotValues, only_where, is_there, told, worth, outside}
use Rattle.slot_values.specs.Outcome.{if_none, value_within}
use Rattle.slot_values.specs.Quickly.{applied, beside, choice_of, chosen_of, minus_of, quickly, unless_past}

own : (p : Pos) (x : Option Past) (v : Value) → unless_past x v ≡ if_none (told p x) v
own p None v = refl
own p (Some x) v = refl

made : (ps : List PastAt) (v : Value) (g : Value → Value) → option_map g (if_none ps v) ≡ if_none ps (g v)
made [] v g = refl
made (p ∷ ps) v g = refl

taken : (q : Pos) (ps : List PastAt) (v : Value) → minus_of (if_none ps v) ≡ if_none (ps ++ told q (past_of_minus v)) (minus_value v)
taken q [] v = own q (past_of_minus v) (minus_value v)
taken q (p ∷ ps) v = refl

operated : (q : Pos) (o : Operator) (ps qs : List PastAt) (v w : Value) →
    applied o (if_none ps v) (if_none qs w) ≡ if_none (ps ++ qs ++ told q (past_of_values o v w)) (apply o v w)
operated q o [] [] v w = own q (past_of_values o v w) (apply o v w)
operated q o [] (r ∷ qs) v w = refl
operated q o (p ∷ ps) qs v w = refl

both : (c : Value) (ps qs : List PastAt) (v w : Value) → chosen_of c (if_none ps v) (if_none qs w) ≡ if_none (ps ++ qs) (choose c v w)
both c [] [] v w = refl
both c [] (q ∷ qs) v w = refl
both c (p ∷ ps) qs v w = refl

three : (ps qs rs : List PastAt) (u v w : Value) → choice_of (if_none ps u) (if_none qs v) (if_none rs w) ≡ if_none (ps ++ qs ++ rs) (choose u v w)
three [] qs rs u v w = both u qs rs v w
three (p ∷ ps) qs rs u v w = refl

besides : (ps : List PastAt) (u v : Value) → beside (if_none ps u) v ≡ if_none ps v
besides [] u v = refl
besides (p ∷ ps) u v = refl

pub quickly_is : (s : SlotValues) (on : Bool) (e : Resolution) → quickly s on e ≡ value_within s on e
quickly_is s on (known v) = refl
quickly_is s on (slot k) = refl
quickly_is s on (negated a) = rw (quickly_is s on a) (made (outside s on a) (worth s on a) not_value)
quickly_is s on (opposite p a) = rw (quickly_is s on a) (taken p (outside s on a) (worth s on a))
quickly_is s on (combined p o a b) =
    rw (quickly_is s on a, quickly_is s on b) (operated p o (outside s on a) (outside s on b) (worth s on a) (worth s on b))
quickly_is s on (chosen a b d) =
    rw (quickly_is s on a, quickly_is s on b, quickly_is s on d) (three (outside s on a) (outside s on b) (outside s on d) (worth s on a)
    (worth s on b) (worth s on d))
quickly_is s on (started k a b) =
    rw (quickly_is s on a, quickly_is s on b) (both (s k) (outside s on a) (outside s on b) (worth s on a) (worth s on b))
quickly_is s on (sampled k c a) =
    rw (quickly_is s (is_there (s k)) a) (made (outside s (is_there (s k)) a) (worth s (is_there (s k)) a) (only_where (is c (s k))))
quickly_is s on (merged k a b) =
    rw (quickly_is s (is true (s k)) a, quickly_is s (is false (s k)) b) (both (s k) (outside s (is true (s k)) a) (outside s (is false (s k)) b)
    (worth s (is true (s k)) a) (worth s (is false (s k)) b))
quickly_is s on (latest a b o h) =
    rw (quickly_is s on a) (besides (outside s on a) (worth s on a) (only_where on (choose (s b) (s o) (s h))))
