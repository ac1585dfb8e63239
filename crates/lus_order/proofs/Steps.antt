-- One step of a loop that has what is there, followed by what is to come.
use Rattle.std.proofs.Common.{◌≡◌, ◌∙◌, refl, ap, sym, ℕ, ◌+◌, ◌<◌, List, [], ◌∷◌, ◌++◌, drop, map, flat_map, length, get_or}
use Rattle.std.proofs.lemmas.List.{append_assoc, map-append}
use Rattle.lus_scopes.proofs.Loops.{dropped}

pub one_added : {A B : Type 0} (f : A → List B) (all : List A → List B) → ((x : A) (xs : List A) → all (x ∷ xs) ≡ f x ++ all xs)
    → (xs : List A) (i : ℕ) (x : A) (old new total : List B) → i < length xs → x ≡ get_or xs i x
    → old ++ all (drop i xs) ≡ total → new ≡ old ++ f x → new ++ all (drop (i + 1) xs) ≡ total
one_added f all law xs i x old new total h e w n =
    ap (λ zs. zs ++ all (drop (i + 1) xs)) n
    ∙ append_assoc old (f x) (all (drop (i + 1) xs))
    ∙ ap (λ zs. old ++ zs) (sym (ap all (dropped xs i x h e) ∙ law x (drop (i + 1) xs)))
    ∙ w

-- where each of what is seen gives some
pub one_given : {A B C : Type 0} (f : B → List C) (see : A → B) (xs : List A) (i : ℕ) (x : A) (old new total : List C)
    → i < length xs → x ≡ get_or xs i x → old ++ flat_map f (map see (drop i xs)) ≡ total → new ≡ old ++ f (see x)
    → new ++ flat_map f (map see (drop (i + 1) xs)) ≡ total
one_given f see xs i x old new total h e w n =
    one_added (λ z. f (see z)) (λ zs. flat_map f (map see zs)) (λ z zs. refl) xs i x old new total h e w n

-- where each gives one
pub one_pushed : {A R B : Type 0} (see : R → B) (want : A → B) (all : List A → List B)
    → ((x : A) (xs : List A) → all (x ∷ xs) ≡ want x ∷ all xs) → (xs : List A) (i : ℕ) (x : A) (old new : List R) (r : R) (total : List B)
    → i < length xs → x ≡ get_or xs i x → map see old ++ all (drop i xs) ≡ total → new ≡ old ++ r ∷ [] → see r ≡ want x
    → map see new ++ all (drop (i + 1) xs) ≡ total
one_pushed see want all law xs i x old new r total h e w n s =
    one_added (λ z. want z ∷ []) all law xs i x (map see old) (map see new) total h e w
    (ap (map see) n ∙ map-append see old (r ∷ []) ∙ ap (λ z. map see old ++ z ∷ []) s)

-- where each changes what is there
pub one_changed : {A S R : Type 0} (all : S → List A → R) (next : S → A → S) → ((s : S) (x : A) (xs : List A) → all s (x ∷ xs) ≡ all (next s x) xs)
    → (xs : List A) (i : ℕ) (x : A) (old new : S) (total : R) → i < length xs → x ≡ get_or xs i x
    → all old (drop i xs) ≡ total → new ≡ next old x → all new (drop (i + 1) xs) ≡ total
one_changed all next law xs i x old new total h e w n =
    ap (λ s. all s (drop (i + 1) xs)) n ∙ sym (ap (all old) (dropped xs i x h e) ∙ law old x (drop (i + 1) xs)) ∙ w

-- where one makes no difference
pub one_passed : {A R : Type 0} (all : List A → R) (xs : List A) (i : ℕ) (x : A) (total : R) → i < length xs → x ≡ get_or xs i x
    → all (x ∷ drop (i + 1) xs) ≡ all (drop (i + 1) xs) → all (drop i xs) ≡ total → all (drop (i + 1) xs) ≡ total
one_passed all xs i x total h e s w = sym (ap all (dropped xs i x h e) ∙ s) ∙ w

-- of two lists side by side
pub two_changed : {A B S R : Type 0} (all : S → List A → List B → R) (next : S → A → B → S)
    → ((s : S) (x : A) (xs : List A) (y : B) (ys : List B) → all s (x ∷ xs) (y ∷ ys) ≡ all (next s x y) xs ys)
    → (xs : List A) (i : ℕ) (x : A) (ys : List B) (j : ℕ) (y : B) (old new : S) (total : R) → i < length xs → x ≡ get_or xs i x
    → j < length ys → y ≡ get_or ys j y → all old (drop i xs) (drop j ys) ≡ total → new ≡ next old x y
    → all new (drop (i + 1) xs) (drop (j + 1) ys) ≡ total
two_changed all next law xs i x ys j y old new total h e k d w n =
    ap (λ s. all s (drop (i + 1) xs) (drop (j + 1) ys)) n
    ∙ sym (ap (λ zs. all old zs (drop j ys)) (dropped xs i x h e) ∙ ap (all old (x ∷ drop (i + 1) xs)) (dropped ys j y k d)
    ∙ law old x (drop (i + 1) xs) y (drop (j + 1) ys))
    ∙ w
