-- What stands at a place of a list.
use Rattle.std.proofs.Common.{◌≡◌, ℕ, zero, suc, length, drop, take, ◌≤◌, ◌-◌, arith, List, [], ◌∷◌, map, Some, None, unwrap_or, refl, sym, ap, ◌∙◌, option_map}
use Rattle.std.specs.Prelude.{slice_get, slice_range}
use Rattle.std.proofs.lemmas.Option.{slice_get-map}

pub one_there : {A B : Type 0} (f : A → B) (xs : List A) (k : ℕ) (x : A) (d : B) → Some x ≡ slice_get xs k → f x ≡ unwrap_or (slice_get (map f xs) k) d
one_there f xs k x d e = ap (λ o. unwrap_or (option_map f o) d) e ∙ sym (ap (λ o. unwrap_or o d) (slice_get-map f xs k))

pub none_there : {A B : Type 0} (f : A → B) (xs : List A) (k : ℕ) (d : B) → None ≡ slice_get xs k → d ≡ unwrap_or (slice_get (map f xs) k) d
none_there f xs k d e = ap (λ o. unwrap_or (option_map f o) d) e ∙ sym (ap (λ o. unwrap_or o d) (slice_get-map f xs k))

take_all : {A : Type 0} (n : ℕ) (xs : List A) → length xs ≤ n → take n xs ≡ xs
take_all zero [] l = refl
take_all zero (x ∷ xs) l = absurd (omega (arith, l))
take_all (suc n) [] l = refl
take_all (suc n) (x ∷ xs) l = ap (λ y. x ∷ y) (take_all n xs (omega (arith, l)))

rest_fits : {A : Type 0} (xs : List A) (k : ℕ) → length (drop k xs) ≤ length xs - k
rest_fits xs zero = omega arith
rest_fits [] (suc k) = omega arith
rest_fits (x ∷ xs) (suc k) = let r : length (drop k xs) ≤ length xs - k = rest_fits xs k in omega arith

rest_mapped : {A B : Type 0} (f : A → B) (xs : List A) (k : ℕ) → map f (drop k xs) ≡ drop k (map f xs)
rest_mapped f xs zero = refl
rest_mapped f [] (suc k) = refl
rest_mapped f (x ∷ xs) (suc k) = rest_mapped f xs k

pub whole_rest : {A B : Type 0} (f : A → B) (xs : List A) (k : ℕ) → map f (slice_range xs k (length xs)) ≡ drop k (map f xs)
whole_rest f xs k = ap (map f) (take_all (length xs - k) (drop k xs) (rest_fits xs k)) ∙ rest_mapped f xs k
