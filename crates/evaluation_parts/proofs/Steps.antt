-- One step of a loop that has what is there, followed by what is to come.
use Rattle.std.proofs.Common.{◌≡◌, ◌∙◌, ap, sym, ℕ, ◌+◌, ◌<◌, List, [], ◌∷◌, ◌++◌, drop, map, length, get_or}
use Rattle.std.proofs.lemmas.List.{append_assoc, drop_more, map-append}

pub next : {A : Type 0} (xs : List A) (i : ℕ) (x : A) → i < length xs → x ≡ get_or xs i x → drop i xs ≡ x ∷ drop (i + 1) xs
next xs i x l is = drop_more xs i x l ∙ ap (λ z. z ∷ drop (i + 1) xs) (sym is)

-- each of what is to come adds some
pub one_added : {A B : Type 0} (f : A → List B) (all : List A → List B) → ((x : A) (xs : List A) → all (x ∷ xs) ≡ f x ++ all xs)
    → (xs : List A) (i : ℕ) (x : A) (old new total : List B) → i < length xs → x ≡ get_or xs i x
    → old ++ all (drop i xs) ≡ total → new ≡ old ++ f x → new ++ all (drop (i + 1) xs) ≡ total
one_added f all law xs i x old new total l is e h =
    ap (λ z. z ++ all (drop (i + 1) xs)) h
    ∙ append_assoc old (f x) (all (drop (i + 1) xs))
    ∙ ap (λ z. old ++ z) (sym (ap all (next xs i x l is) ∙ law x (drop (i + 1) xs)))
    ∙ e

-- each is pushed as one of which so much is seen
pub one_pushed : {A R B : Type 0} (see : R → B) (want : A → B) (all : List A → List B)
    → ((x : A) (xs : List A) → all (x ∷ xs) ≡ want x ∷ all xs) → (xs : List A) (i : ℕ) (x : A) (old new : List R) (r : R) (total : List B)
    → i < length xs → x ≡ get_or xs i x → map see old ++ all (drop i xs) ≡ total → new ≡ old ++ r ∷ [] → see r ≡ want x
    → map see new ++ all (drop (i + 1) xs) ≡ total
one_pushed see want all law xs i x old new r total l is e h s =
    one_added (λ z. want z ∷ []) all law xs i x (map see old) (map see new) total l is e
    (ap (map see) h ∙ map-append see old (r ∷ []) ∙ ap (λ z. map see old ++ z ∷ []) s)

-- each changes what there is
pub one_taken : {A T B : Type 0} (step : T → A → T) (rest : T → List A → B) → ((t : T) (x : A) (xs : List A) → rest (step t x) xs ≡ rest t (x ∷ xs))
    → (xs : List A) (i : ℕ) (x : A) (old new : T) (total : B) → i < length xs → x ≡ get_or xs i x
    → rest old (drop i xs) ≡ total → new ≡ step old x → rest new (drop (i + 1) xs) ≡ total
one_taken step rest law xs i x old new total l is e h =
    ap (λ z. rest z (drop (i + 1) xs)) h
    ∙ law old x (drop (i + 1) xs)
    ∙ sym (ap (rest old) (next xs i x l is))
    ∙ e

-- ---- a search

-- past one that is not it
pub one_passed : {A B : Type 0} (read : List A → B) (xs : List A) (i : ℕ) (x : A) (total : B) → i < length xs → x ≡ get_or xs i x
    → ((rest : List A) → read (x ∷ rest) ≡ read rest) → read (drop i xs) ≡ total → read (drop (i + 1) xs) ≡ total
one_passed read xs i x total l is h e = sym (ap read (next xs i x l is) ∙ h (drop (i + 1) xs)) ∙ e

-- at the one
pub one_found : {A B : Type 0} (read : List A → B) (xs : List A) (i : ℕ) (x : A) (found total : B) → i < length xs → x ≡ get_or xs i x
    → ((rest : List A) → read (x ∷ rest) ≡ found) → read (drop i xs) ≡ total → found ≡ total
one_found read xs i x found total l is h e = sym (ap read (next xs i x l is) ∙ h (drop (i + 1) xs)) ∙ e
