-- Evaluation step by step gives the value, or the first operation that is outside.
use Rattle.std.proofs.Common.{◌≡◌, Bool, true, false, List, [], ◌∷◌, ◌++◌, Result, Ok, refl}
use Rattle.lus_meaning.specs.Value.{Value, is, not_value, minus_value, apply, choose}
use Rattle.lus_evaluation.specs.Past.{past_of_values, past_of_minus}
use Rattle.slot_values.specs.declared.resolved.PastAt.{PastAt}
use Rattle.slot_values.specs.Resolution.{Resolution, known, slot, negated, opposite, combined, chosen, started, sampled, merged, latest}
use Rattle.slot_values.specs.Evaluated.{SlotValues, only_where, is_there, told, first_or, worth, outside, evaluated}
use Rattle.slot_values.specs.Stepwise.{and_then, operated, minus_at, stepwise}

-- what comes after a first part: its own first one counts
after : (ps : List PastAt) (v : Value) (qs : List PastAt) (g : Value → Value) (f : Value → Result Value PastAt) → f v ≡ first_or qs (g v) →
    and_then (first_or ps v) f ≡ first_or (ps ++ qs) (g v)
after [] v qs g f e = e
after (p ∷ ps) v qs g f e = refl

done : (ps : List PastAt) (v : Value) (g : Value → Value) → and_then (first_or ps v) (λ v. Ok (g v)) ≡ first_or ps (g v)
done [] v g = refl
done (p ∷ ps) v g = refl

two : (ps qs rs : List PastAt) (v w u : Value) (f : Value → Value → Result Value PastAt) → f v w ≡ first_or rs u →
    and_then (first_or ps v) (λ v. and_then (first_or qs w) (f v)) ≡ first_or (ps ++ qs ++ rs) u
two [] [] rs v w u f e = e
two [] (q ∷ qs) rs v w u f e = refl
two (p ∷ ps) qs rs v w u f e = refl

both : (ps qs : List PastAt) (v w : Value) (g : Value → Value → Value) →
    and_then (first_or ps v) (λ v. and_then (first_or qs w) (λ w. Ok (g v w))) ≡ first_or (ps ++ qs) (g v w)
both [] [] v w g = refl
both [] (q ∷ qs) v w g = refl
both (p ∷ ps) qs v w g = refl

three : (ps qs rs : List PastAt) (u v w : Value) (g : Value → Value → Value → Value) →
    and_then (first_or ps u) (λ u. and_then (first_or qs v) (λ v. and_then (first_or rs w) (λ w. Ok (g u v w)))) ≡ first_or (ps ++ qs ++ rs) (g u v w)
three [] [] [] u v w g = refl
three [] [] (r ∷ rs) u v w g = refl
three [] (q ∷ qs) rs u v w g = refl
three (p ∷ ps) qs rs u v w g = refl

pub stepwise_is : (s : SlotValues) (on : Bool) (e : Resolution) → stepwise s on e ≡ evaluated s on e
stepwise_is s on (known v) = refl
stepwise_is s on (slot k) = refl
stepwise_is s on (negated a) = rw (stepwise_is s on a) (done (outside s on a) (worth s on a) not_value)
stepwise_is s on (opposite p a) =
    rw (stepwise_is s on a) (after (outside s on a) (worth s on a) (told p (past_of_minus (worth s on a))) minus_value (minus_at p) refl)
stepwise_is s on (combined p o a b) =
    rw (stepwise_is s on a, stepwise_is s on b) (two (outside s on a) (outside s on b) (told p (past_of_values o (worth s on a) (worth s on b)))
    (worth s on a) (worth s on b) (apply o (worth s on a) (worth s on b)) (operated p o) refl)
stepwise_is s on (chosen a b d) =
    rw (stepwise_is s on a, stepwise_is s on b, stepwise_is s on d) (three (outside s on a) (outside s on b) (outside s on d) (worth s on a)
    (worth s on b) (worth s on d) choose)
stepwise_is s on (started k a b) =
    rw (stepwise_is s on a, stepwise_is s on b) (both (outside s on a) (outside s on b) (worth s on a) (worth s on b) (choose (s k)))
stepwise_is s on (sampled k c a) =
    rw (stepwise_is s (is_there (s k)) a) (done (outside s (is_there (s k)) a) (worth s (is_there (s k)) a) (only_where (is c (s k))))
stepwise_is s on (merged k a b) =
    rw (stepwise_is s (is true (s k)) a, stepwise_is s (is false (s k)) b) (both (outside s (is true (s k)) a) (outside s (is false (s k)) b)
    (worth s (is true (s k)) a) (worth s (is false (s k)) b) (choose (s k)))
stepwise_is s on (latest a b o h) =
    rw (stepwise_is s on a) (done (outside s on a) (worth s on a) (λ v. only_where on (choose (s b) (s o) (s h))))
