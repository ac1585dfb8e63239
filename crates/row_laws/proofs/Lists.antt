-- Two lists side by side, and what is found in a list.
use Rattle.std.proofs.Common.{◌≡◌, ℕ, zero, suc, Bool, true, false, cond, List, [], ◌∷◌, ◌++◌, map, length, refl, ap, sym, subst, Option, Some, None, slice_get, unwrap_or}
use Rattle.std.specs.List.{AllByRecursion}
use Rattle.std.specs.Map.{lookup}
use Rattle.std.specs.Str.{bytes_eq}
use Rattle.std.proofs.lemmas.Option.{none-some}
use Rattle.lus_tree.specs.Tree.{Name}
use Rattle.lus_meaning.proofs.Unique.{same_bytes}

pub some_inner : {A : Type 0} (x y : A) → Some x ≡ Some y → x ≡ y
some_inner {A} x y e = ap back e
  where
    back : Option A → A
    back None = x
    back (Some z) = z

-- what is so of the elements of two lists, one by one
abbrev pub Both : {A B : Type 0} → (A → B → Type 0) → List A → List B → Type 0
Both P [] [] = Unit {0}
Both P (x ∷ xs) (y ∷ ys) = P x y × Both P xs ys
Both P [] (y ∷ ys) = ⊥
Both P (x ∷ xs) [] = ⊥

pub both_append : {A B : Type 0} (P : A → B → Type 0) (xs zs : List A) (ys ws : List B) → Both P xs ys → Both P zs ws →
    Both P (xs ++ zs) (ys ++ ws)
both_append P [] zs [] ws a b = b
both_append P (x ∷ xs) zs (y ∷ ys) ws a b = (a.0, both_append P xs zs ys ws a.1 b)
both_append P [] zs (y ∷ ys) ws a b = absurd a
both_append P (x ∷ xs) zs [] ws a b = absurd a

pub both_mapped : {X A B : Type 0} (P : A → B → Type 0) (f : X → A) (g : X → B) (xs : List X) →
    AllByRecursion (λ x. P (f x) (g x)) xs → Both P (map f xs) (map g xs)
both_mapped P f g [] a = tt
both_mapped P f g (x ∷ xs) a = (a.0, both_mapped P f g xs a.1)

pub both_over : {A B C : Type 0} (P : B → C → Type 0) (w : A → B) (xs : List A) (ys : List C) → Both (λ x y. P (w x) y) xs ys → Both P (map w xs) ys
both_over P w [] [] a = tt
both_over P w (x ∷ xs) (y ∷ ys) a = (a.0, both_over P w xs ys a.1)
both_over P w [] (y ∷ ys) a = absurd a
both_over P w (x ∷ xs) [] a = absurd a

pub both_at : {A B : Type 0} (P : A → B → Type 0) (xs : List A) (ys : List B) → Both P xs ys → (k : ℕ) (y : B) →
    slice_get ys k ≡ Some y → (x : A) × (slice_get xs k ≡ Some x) × P x y
both_at P [] [] a zero y e = absurd (none-some y e)
both_at P [] [] a (suc k) y e = absurd (none-some y e)
both_at P (x ∷ xs) (z ∷ ys) a zero y e = (x, refl, subst (P x) (some_inner z y e) a.0)
both_at P (x ∷ xs) (z ∷ ys) a (suc k) y e = both_at P xs ys a.1 k y e
both_at P [] (z ∷ ys) a k y e = absurd a
both_at P (x ∷ xs) [] a k y e = absurd a

pub both_many : {A B : Type 0} (P : A → B → Type 0) (xs : List A) (ys : List B) → Both P xs ys → length ys ≡ length xs
both_many P [] [] a = refl
both_many P (x ∷ xs) (y ∷ ys) a = ap suc (both_many P xs ys a.1)
both_many P [] (y ∷ ys) a = absurd a
both_many P (x ∷ xs) [] a = absurd a

-- what is mapped at a place
pub mapped_at : {A B : Type 0} (w : A → B) (d : B) (xs : List A) (k : ℕ) (x : A) → slice_get xs k ≡ Some x →
    unwrap_or (slice_get (map w xs) k) d ≡ w x
mapped_at w d [] zero x e = absurd (none-some x e)
mapped_at w d [] (suc k) x e = absurd (none-some x e)
mapped_at w d (y ∷ xs) zero x e = ap w (some_inner y x e)
mapped_at w d (y ∷ xs) (suc k) x e = mapped_at w d xs k x e

pub mapped_many : {A B : Type 0} (w : A → B) (xs : List A) → length (map w xs) ≡ length xs
mapped_many w [] = refl
mapped_many w (x ∷ xs) = ap suc (mapped_many w xs)

pub mapped_twice : {A B C : Type 0} (w : B → C) (g : A → B) (xs : List A) → map w (map g xs) ≡ map (λ x. w (g x)) xs
mapped_twice w g [] = refl
mapped_twice w g (x ∷ xs) = ap (λ l. w (g x) ∷ l) (mapped_twice w g xs)

pub grouped : {A : Type 0} (xs ys zs : List A) → (xs ++ ys) ++ zs ≡ xs ++ (ys ++ zs)
grouped [] ys zs = refl
grouped (x ∷ xs) ys zs = ap (λ l. x ∷ l) (grouped xs ys zs)

pub first_same : {A : Type 0} (x y : A) (xs ys : List A) → x ∷ xs ≡ y ∷ ys → x ≡ y
first_same {A} x y xs ys e = ap back e
  where
    back : List A → A
    back [] = x
    back (z ∷ zs) = z

pub rest_same : {A : Type 0} (x y : A) (xs ys : List A) → x ∷ xs ≡ y ∷ ys → xs ≡ ys
rest_same {A} x y xs ys e = ap back e
  where
    back : List A → List A
    back [] = xs
    back (z ∷ zs) = zs

-- what is found by a name has what all have
pub found_has : {A : Type 0} (P : Name → A → Type 0) (x : Name) (es : List (Name × A)) → AllByRecursion (λ q. P q.0 q.1) es → (e : A) →
    lookup (bytes_eq x) es ≡ Some e → P x e
found_has P x [] a e h = absurd (none-some e h)
found_has {A} P x (z ∷ es) a e h = go (bytes_eq x z.0) refl h (found_has P x es a.1 e)
  where
    go : (c : Bool) → bytes_eq x z.0 ≡ c → cond c (Some z.1) (lookup (bytes_eq x) es) ≡ Some e → (lookup (bytes_eq x) es ≡ Some e → P x e) → P x e
    go true k h m = subst (λ y. P y e) (sym (same_bytes x z.0 k)) (subst (λ y. P z.0 y) (some_inner z.1 e h) a.0)
    go false k h m = m h
