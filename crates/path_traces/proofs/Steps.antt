-- One step of a loop that has what is there, followed by what is to come.
use Rattle.std.proofs.Common.{◌≡◌, ◌∙◌, refl, ap, sym, ℕ, suc, ◌+◌, ◌<◌, List, [], ◌∷◌, ◌++◌, drop, map, flat_map, length, get_or, add-one, drop-cons, append_assoc}
use Rattle.std.proofs.lemmas.List.{map-append}
use Rattle.std.proofs.lemmas.Grind.{flat_map-append}

dropped : {X : Type 0} (xs : List X) (i : ℕ) (x : X) → i < length xs → x ≡ get_or xs i x → drop i xs ≡ x ∷ drop (i + 1) xs
dropped xs i x h e = rw add-one (drop-cons xs i x h ∙ ap (λ y. y ∷ drop (suc i) xs) (sym e))

pub one_added : {A B : Type 0} (f : A → List B) (all : List A → List B) → ((x : A) (xs : List A) → all (x ∷ xs) ≡ f x ++ all xs)
    → (xs : List A) (i : ℕ) (x : A) (old new total : List B) → i < length xs → x ≡ get_or xs i x
    → old ++ all (drop i xs) ≡ total → new ≡ old ++ f x → new ++ all (drop (i + 1) xs) ≡ total
one_added f all law xs i x old new total h e w n =
    ap (λ zs. zs ++ all (drop (i + 1) xs)) n
    ∙ append_assoc old (f x) (all (drop (i + 1) xs))
    ∙ ap (λ zs. old ++ zs) (sym (ap all (dropped xs i x h e) ∙ law x (drop (i + 1) xs)))
    ∙ w

-- where each of what is seen gives some
pub one_given : {A B C : Type 0} (f : B → List C) (see : A → B) (xs : List A) (i : ℕ) (x : A) (old new total : List C)
    → i < length xs → x ≡ get_or xs i x → old ++ flat_map f (map see (drop i xs)) ≡ total → new ≡ old ++ f (see x)
    → new ++ flat_map f (map see (drop (i + 1) xs)) ≡ total
one_given f see xs i x old new total h e w n =
    one_added (λ z. f (see z)) (λ zs. flat_map f (map see zs)) (λ z zs. refl) xs i x old new total h e w n

-- where each of what is seen has parts, of which each gives some
pub one_spread : {A B C D : Type 0} (f : C → List D) (parts : B → List C) (see : A → B) (xs : List A) (i : ℕ) (x : A) (old new total : List D)
    → i < length xs → x ≡ get_or xs i x → old ++ flat_map f (flat_map parts (map see (drop i xs))) ≡ total → new ≡ old ++ flat_map f (parts (see x))
    → new ++ flat_map f (flat_map parts (map see (drop (i + 1) xs))) ≡ total
one_spread f parts see xs i x old new total h e w n =
    one_added (λ z. flat_map f (parts (see z))) (λ zs. flat_map f (flat_map parts (map see zs)))
    (λ z zs. flat_map-append f (parts (see z)) (flat_map parts (map see zs))) xs i x old new total h e w n

-- where each gives one
pub one_pushed : {A R B : Type 0} (see : R → B) (want : A → B) (all : List A → List B)
    → ((x : A) (xs : List A) → all (x ∷ xs) ≡ want x ∷ all xs) → (xs : List A) (i : ℕ) (x : A) (old new : List R) (r : R) (total : List B)
    → i < length xs → x ≡ get_or xs i x → map see old ++ all (drop i xs) ≡ total → new ≡ old ++ r ∷ [] → see r ≡ want x
    → map see new ++ all (drop (i + 1) xs) ≡ total
one_pushed see want all law xs i x old new r total h e w n s =
    one_added (λ z. want z ∷ []) all law xs i x (map see old) (map see new) total h e w
    (ap (map see) n ∙ map-append see old (r ∷ []) ∙ ap (λ z. map see old ++ z ∷ []) s)
