-- What holds of all of a list.
use Rattle.std.proofs.Common.{ℕ, zero, suc, List, [], ◌∷◌, map}
use Rattle.std.specs.Prelude.{slice_get, option_to_list}
use Rattle.std.specs.List.{AllByRecursion}
use Rattle.lus_meaning.proofs.Lists.{both_parts}
use Rattle.lus_evaluation.specs.Frame.{picked}

at_number : {A : Type 0} (P : A → Type 0) (xs : List A) (k : ℕ) → AllByRecursion P xs → AllByRecursion P (option_to_list (slice_get xs k))
at_number P [] k a = tt
at_number P (x ∷ xs) zero a = (a.0, tt)
at_number P (x ∷ xs) (suc k) a = at_number P xs k a.1

pub each_picked : {A : Type 0} (P : A → Type 0) (ks : List ℕ) (xs : List A) → AllByRecursion P xs → AllByRecursion P (picked ks xs)
each_picked P [] xs a = tt
each_picked P (k ∷ ks) xs a = both_parts P (option_to_list (slice_get xs k)) (picked ks xs) (at_number P xs k a) (each_picked P ks xs a)

pub from_mapped : {A B : Type 0} (P : B → Type 0) (f : A → B) (xs : List A) → AllByRecursion P (map f xs) → AllByRecursion (λ x. P (f x)) xs
from_mapped P f [] a = tt
from_mapped P f (x ∷ xs) a = (a.0, from_mapped P f xs a.1)
