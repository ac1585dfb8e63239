-- What holds of each element.
use Rattle.std.proofs.Common.{◌≡◌, Bool, true, ◌&&◌, List, [], ◌∷◌, ◌++◌, map, flat_map, refl, ◌∙◌}
use Rattle.std.specs.List.{AllByRecursion, list_all}
use Rattle.std.proofs.lemmas.List.Folds.{list_all-append}

pub both_true : (a b : Bool) → a ≡ true → b ≡ true → (a && b) ≡ true
both_true a b h k = rw (h, k) refl

pub all_both : {A : Type 0} (P : A → Type 0) (xs ys : List A) → AllByRecursion P xs → AllByRecursion P ys →
    AllByRecursion P (xs ++ ys)
all_both P [] ys a b = b
all_both P (x ∷ xs) ys a b = (a.0, all_both P xs ys a.1 b)

pub all_such : {A : Type 0} (P Q : A → Type 0) → ((x : A) → P x → Q x) → (xs : List A) → AllByRecursion P xs →
    AllByRecursion Q xs
all_such P Q h [] a = tt
all_such P Q h (x ∷ xs) a = (h x a.0, all_such P Q h xs a.1)

pub all_map : {A B : Type 0} (P : A → Type 0) (Q : B → Type 0) (f : A → B) → ((x : A) → P x → Q (f x)) →
    (xs : List A) → AllByRecursion P xs → AllByRecursion Q (map f xs)
all_map P Q f h [] a = tt
all_map P Q f h (x ∷ xs) a = (h x a.0, all_map P Q f h xs a.1)

pub all_pass : {A : Type 0} (P : A → Type 0) (f : A → Bool) → ((x : A) → P x → f x ≡ true) → (xs : List A) →
    AllByRecursion P xs → list_all f xs ≡ true
all_pass P f h [] a = refl
all_pass P f h (x ∷ xs) a = both_true (f x) (list_all f xs) (h x a.0) (all_pass P f h xs a.1)

pub pass_both : {A : Type 0} (f : A → Bool) (xs ys : List A) → list_all f xs ≡ true → list_all f ys ≡ true →
    list_all f (xs ++ ys) ≡ true
pass_both f xs ys a b = list_all-append f xs ys ∙ both_true (list_all f xs) (list_all f ys) a b

pub all_flat : {A B : Type 0} (P : A → Type 0) (Q : B → Type 0) (f : A → List B) →
    ((x : A) → P x → AllByRecursion Q (f x)) → (xs : List A) → AllByRecursion P xs →
    AllByRecursion Q (flat_map f xs)
all_flat P Q f h [] a = tt
all_flat P Q f h (x ∷ xs) a = all_both Q (f x) (flat_map f xs) (h x a.0) (all_flat P Q f h xs a.1)

pub pass_flat : {A B : Type 0} (P : A → Type 0) (g : B → Bool) (f : A → List B) →
    ((x : A) → P x → list_all g (f x) ≡ true) → (xs : List A) → AllByRecursion P xs →
    list_all g (flat_map f xs) ≡ true
pass_flat P g f h [] a = refl
pass_flat P g f h (x ∷ xs) a = pass_both g (f x) (flat_map f xs) (h x a.0) (pass_flat P g f h xs a.1)
