-- What is seen of the item of a place.
use Rattle.std.proofs.Common.{◌≡◌, refl, ap, ◌∙◌, ℕ, zero, suc, List, [], ◌∷◌, map, Option, Some, None, option_map, unwrap_or, slice_get, slice_index_or}
use Rattle.std.specs.Borrow.{Bor}

get_seen : {A B : Type 0} (v : A → B) (xs : List A) (k : ℕ) → option_map v (slice_get xs k) ≡ slice_get (map v xs) k
get_seen v [] k = refl
get_seen v (x ∷ xs) zero = refl
get_seen v (x ∷ xs) (suc k) = get_seen v xs k

or_seen : {A B : Type 0} (v : A → B) (d : B) (xs : List A) (k : ℕ) → unwrap_or (option_map v (slice_get xs k)) d ≡ slice_index_or (map v xs) k d
or_seen v d [] k = refl
or_seen v d (x ∷ xs) zero = refl
or_seen v d (x ∷ xs) (suc k) = or_seen v d xs k

lent : {A B : Type 0} (v : A → B) (o : Option (Bor A)) → option_map (λ x. v x.now) o ≡ option_map v (option_map (λ x. x.now) o)
lent v None = refl
lent v (Some x) = refl

pub seen : {A B : Type 0} (v : A → B) (o : Option (Bor A)) (xs : List A) (k : ℕ) → option_map (λ x. x.now) o ≡ slice_get xs k
    → option_map (λ x. v x.now) o ≡ slice_get (map v xs) k
seen v o xs k e = lent v o ∙ (ap (option_map v) e ∙ get_seen v xs k)

pub seen_or : {A B : Type 0} (v : A → B) (d : B) (o : Option (Bor A)) (xs : List A) (k : ℕ) → option_map (λ x. x.now) o ≡ slice_get xs k
    → unwrap_or (option_map (λ x. v x.now) o) d ≡ slice_index_or (map v xs) k d
seen_or v d o xs k e = ap (λ z. unwrap_or z d) (lent v o ∙ ap (option_map v) e) ∙ or_seen v d xs k
