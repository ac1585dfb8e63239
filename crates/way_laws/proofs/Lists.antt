-- Names in a list, and tests that hold.
use Rattle.std.proofs.Common.{◌≡◌, Bool, true, false, not, ◌&&◌, ◌||◌, List, [], ◌∷◌, flat_map, refl, sym, subst}
use Rattle.std.specs.List.{AllByRecursion, list_all}
use Rattle.std.specs.Str.{bytes_eq}
use Rattle.std.proofs.Math.Logic.{◌⊎◌, inl, inr}
use Rattle.std.proofs.lemmas.Bool.{false≢true}
use Rattle.lus_tree.specs.Tree.{Name}
use Rattle.lus_meaning.specs.Depends.{named_in}
use Rattle.lus_meaning.proofs.Members.{IsIn}
use Rattle.lus_meaning.proofs.Exists.{self_bytes}
use Rattle.lus_meaning.proofs.Lists.{or_left}
use Rattle.lus_meaning.proofs.Now.{left_part, right_part}
use Rattle.lus_meaning.proofs.Unique.{same_bytes}

pub not_false : (b : Bool) → not b ≡ false → b ≡ true
not_false true e = refl
not_false false e = absurd (false≢true (sym e))

pub both_true : (a b : Bool) → (a && b) ≡ true → (a ≡ true) × (b ≡ true)
both_true true b e = (refl, e)
both_true false b e = absurd (false≢true e)

pub itself : (x : Name) → named_in x (x ∷ []) ≡ true
itself x = or_left (bytes_eq x x) false (self_bytes x)

pub one_named : (x y : Name) → named_in x (y ∷ []) ≡ true → x ≡ y
one_named x y e = go (bytes_eq x y) refl e
  where
    go : (b : Bool) → bytes_eq x y ≡ b → (b || false) ≡ true → x ≡ y
    go true h e = same_bytes x y h
    go false h e = absurd (false≢true e)

pub all_true : {A : Type 0} (test : A → Bool) (x : A) (xs : List A) → list_all test xs ≡ true → IsIn x xs → test x ≡ true
all_true test x [] e h = absurd h
all_true test x (y ∷ xs) e h = go (test y) refl e h (all_true test x xs)
  where
    go : (b : Bool) → test y ≡ b → (b && list_all test xs) ≡ true → (x ≡ y) ⊎ IsIn x xs → (list_all test xs ≡ true → IsIn x xs → test x ≡ true)
        → test x ≡ true
    go true k e (inl s) f = subst (λ z. test z ≡ true) (sym s) k
    go true k e (inr h) f = f e h
    go false k e h f = absurd (false≢true e)

pub all_parts : {A B : Type 0} (P : B → Type 0) (f : A → List B) (xs : List A) → AllByRecursion P (flat_map f xs) → AllByRecursion
    (λ x. AllByRecursion P (f x)) xs
all_parts P f [] a = tt
all_parts P f (x ∷ xs) a = (left_part P (f x) (flat_map f xs) a, all_parts P f xs (right_part P (f x) (flat_map f xs) a))
