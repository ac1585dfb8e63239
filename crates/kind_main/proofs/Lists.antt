-- What is left of a list as a loop goes on.
use Rattle.std.proofs.Common.{◌≡◌, ◌≢◌, ◌≤◌, ◌<◌, ◌+◌, ℕ, zero, suc, List, [], ◌∷◌, length, get_or, drop, map, refl, sym, ap, ◌∙◌, add-one, arith}
use Rattle.std.proofs.Math.Seq.{drop-cons}
use Rattle.std.proofs.lemmas.List.{drop_all}

pub dropped : {X : Type 0} (xs : List X) (i : ℕ) (x : X) → i < length xs → x ≡ get_or xs i x → drop i xs ≡ x ∷ drop (i + 1) xs
dropped xs i x lt is = rw add-one (drop-cons xs i x lt ∙ ap (λ y. y ∷ drop (suc i) xs) (sym is))

pub dropped_all : {X : Type 0} (xs : List X) (i : ℕ) → length xs ≤ i → drop i xs ≡ []
dropped_all xs i le = drop_all i xs le

pub as_long : {X Y : Type 0} (f : X → Y) (xs : List X) → length (map f xs) ≡ length xs
as_long f [] = refl
as_long f (x ∷ xs) = ap suc (as_long f xs)

pub map_drop : {X Y : Type 0} (f : X → Y) (i : ℕ) (xs : List X) → map f (drop i xs) ≡ drop i (map f xs)
map_drop f zero xs = refl
map_drop f (suc i) [] = refl
map_drop f (suc i) (x ∷ xs) = map_drop f i xs

pub map_map : {X Y Z : Type 0} (f : X → Y) (g : Y → Z) (xs : List X) → map g (map f xs) ≡ map (λ x. g (f x)) xs
map_map f g [] = refl
map_map f g (x ∷ xs) = ap (λ l. g (f x) ∷ l) (map_map f g xs)

pub some_there : {X : Type 0} (xs : List X) → xs ≢ [] → 0 < length xs
some_there [] h = absurd (h refl)
some_there (x ∷ xs) h = omega arith
