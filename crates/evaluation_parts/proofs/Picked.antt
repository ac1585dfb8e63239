-- The parts of equations that are picked, one after the other.
use Rattle.std.proofs.Common.{◌≡◌, refl, ap, sym, ℕ, List, ◌∷◌, ◌++◌, flat_map, Option, Some, None, option_to_list, slice_get}
use Rattle.std.proofs.lemmas.List.{append-nil}
use Rattle.lus_evaluation.specs.Frame.{picked}

among : {A B : Type 0} (f : A → List B) (o : Option A) (xs : List A) → flat_map f (option_to_list o ++ xs) ≡ flat_map f (option_to_list o) ++ flat_map f xs
among f None xs = refl
among f (Some a) xs = ap (λ z. z ++ flat_map f xs) (sym (append-nil (f a)))

pub picked_first : {A B : Type 0} (f : A → List B) (k : ℕ) (ks : List ℕ) (xs : List A)
    → flat_map f (picked (k ∷ ks) xs) ≡ flat_map f (option_to_list (slice_get xs k)) ++ flat_map f (picked ks xs)
picked_first f k ks xs = among f (slice_get xs k) (picked ks xs)
