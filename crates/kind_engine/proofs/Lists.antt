-- Lists.
use Rattle.std.specs.Prelude.{ℕ, zero, suc, ◌≡◌, ◌+◌, ◌<◌, ◌++◌, List, [], ◌∷◌, length, map, take, All, Contains, Some, slice_get, slice_index_or, Result, Ok, Err, OnOk, refl}
use Rattle.std.proofs.Common.{ap, arith}

pub none-of : {X : Type 0} (P : X → Type 0) → All P []
none-of P k d l = absurd (omega arith)

pub and-none : {X : Type 0} (xs : List X) → xs ++ [] ≡ xs
and-none [] = refl
and-none (x ∷ xs) = ap (λ l. x ∷ l) (and-none xs)

pub longer : {X : Type 0} (xs : List X) (y : X) (ys : List X) → length xs < length (xs ++ y ∷ ys)
longer [] y ys = omega arith
longer (x ∷ xs) y ys = let r = longer xs y ys in omega arith

pub length-map : {X Y : Type 0} (f : X → Y) (xs : List X) → length (map f xs) ≡ length xs
length-map f [] = refl
length-map f (x ∷ xs) = ap suc (length-map f xs)

pub map-push : {X Y : Type 0} (f : X → Y) (xs : List X) (x : X) → map f (xs ++ x ∷ []) ≡ map f xs ++ f x ∷ []
map-push f [] x = refl
map-push f (y ∷ xs) x = ap (λ l. f y ∷ l) (map-push f xs x)

pub length-push : {X : Type 0} (xs : List X) (x : X) → length (xs ++ x ∷ []) ≡ suc (length xs)
length-push [] x = refl
length-push (y ∷ xs) x = ap suc (length-push xs x)

pub take-whole : {X : Type 0} (xs : List X) → take (length xs) xs ≡ xs
take-whole [] = refl
take-whole (x ∷ xs) = ap (λ l. x ∷ l) (take-whole xs)

pub take-front : {X : Type 0} (xs ys : List X) → take (length xs) (xs ++ ys) ≡ xs
take-front [] ys = refl
take-front (x ∷ xs) ys = ap (λ l. x ∷ l) (take-front xs ys)

-- the last one is at the place of its number
pub at-last : {X : Type 0} (xs : List X) (x : X) → slice_get (xs ++ x ∷ []) (length xs) ≡ Some x
at-last [] x = refl
at-last (y ∷ xs) x = at-last xs x

-- what holds below a number, and of it
pub below-next : (n : ℕ) (A : ℕ → Type 0) → ((q : ℕ) → q < n → A q) → A n → (q : ℕ) → q < n + 1 → A q
below-next zero A f a zero l = a
below-next zero A f a (suc q) l = absurd (omega arith)
below-next (suc n) A f a zero l = f 0 (omega arith)
below-next (suc n) A f a (suc q) l = below-next n (λ k. A (suc k)) (λ k i. f (suc k) (omega arith)) a q (omega arith)

-- what a list has, a longer one has
pub contains-last : {X : Type 0} (xs : List X) (x : X) → Contains (xs ++ x ∷ []) x
contains-last [] x = (0, omega arith, refl)
contains-last (y ∷ xs) x = let c = contains-last xs x in (suc c.0, (let l = c.1 in omega arith), c.2)

pub contains-front : {X : Type 0} (xs ys : List X) (x : X) (k : ℕ) → k < length xs → slice_index_or xs k x ≡ x
    → Contains (xs ++ ys) x
contains-front [] ys x k l e = absurd (omega arith)
contains-front (y ∷ xs) ys x zero l e = (0, omega arith, e)
contains-front (y ∷ xs) ys x (suc k) l e =
    let c = contains-front xs ys x k (omega arith) e in (suc c.0, (let b = c.1 in omega arith), c.2)

pub contains-back : {X : Type 0} (xs ys : List X) (x : X) → Contains ys x → Contains (xs ++ ys) x
contains-back [] ys x h = h
contains-back (y ∷ xs) ys x h =
    let c = contains-back xs ys x h in (suc c.0, (let b = c.1 in omega arith), c.2)

abbrev pub answered : {X Y : Type 0} → X → Result X Y
answered x = Ok x

pub ok-same : {X Y : Type 0} (x y : X) → answered {X = X} {Y = Y} x ≡ answered {X = X} {Y = Y} y → x ≡ y
ok-same x y e = cc

pub on-ok : {X Y : Type 0} (r : Result X Y) {A B : Type 0} → (A → B) → OnOk r A → OnOk r B
on-ok (Ok x) f h = f h
on-ok (Err y) f h = tt
