-- One of a list, and one of its names.
use Rattle.std.proofs.Common.{◌≡◌, ℕ, suc, Bool, true, false, ◌||◌, List, [], ◌∷◌, ◌++◌, map, refl, ap, ◌∙◌, sym, subst}
use Rattle.std.specs.List.{AllByRecursion, list_any}
use Rattle.std.specs.Str.{bytes_eq}
use Rattle.std.proofs.Math.Logic.{◌⊎◌, inl, inr}
use Rattle.std.proofs.lemmas.Bool.{false≢true, cases_Bool}
use Rattle.lus_tree.specs.Tree.{Name}
use Rattle.lus_meaning.specs.Depends.{named_in}
use Rattle.lus_meaning.specs.Cycle.{Place, IsAt}
use Rattle.lus_meaning.proofs.Unique.{same_bytes}
use Rattle.lus_meaning.proofs.Ranked.{all_named}
use Rattle.lus_meaning.proofs.Lists.{named_append}

-- ---- names

pub any_named : (test : Name → Bool) (x : Name) (xs : List Name) → named_in x xs ≡ true → test x ≡ true → list_any test xs ≡ true
any_named test x [] e h = absurd (false≢true e)
any_named test x (y ∷ xs) e h = go (cases_Bool (bytes_eq x y)) (any_named test x xs)
  where
    or_right : (c b : Bool) → b ≡ true → (c || b) ≡ true
    or_right true b k = refl
    or_right false b k = k

    go : (bytes_eq x y ≡ true) ⊎ (bytes_eq x y ≡ false) → (named_in x xs ≡ true → test x ≡ true → list_any test xs ≡ true) → (test y || list_any test xs) ≡ true
    go (inl t) r = let k : test y ≡ true = subst (λ z. test z ≡ true) (same_bytes x y t) h in rw k refl
    go (inr f) r = or_right (test y) (list_any test xs) (r (rw f at e) h)

pub any_found : (test : Name → Bool) (xs : List Name) → list_any test xs ≡ true → (x : Name) × (named_in x xs ≡ true) × (test x ≡ true)
any_found test [] e = absurd (false≢true e)
any_found test (y ∷ xs) e = go (cases_Bool (test y)) (any_found test xs)
  where
    or_right : (c b : Bool) → b ≡ true → (c || b) ≡ true
    or_right true b k = refl
    or_right false b k = k

    self : (named_in y (y ∷ xs) ≡ true)
    self = (all_named (λ z. named_in z (y ∷ xs) ≡ true) (y ∷ xs) (λ z k. k)).0

    go : (test y ≡ true) ⊎ (test y ≡ false) → (list_any test xs ≡ true → (x : Name) × (named_in x xs ≡ true) × (test x ≡ true)) → (x : Name)
        × (named_in x (y ∷ xs) ≡ true) × (test x ≡ true)
    go (inl t) r = (y, self, t)
    go (inr f) r = let q : (x : Name) × (named_in x xs ≡ true) × (test x ≡ true) = r (rw f at e) in (q.0, or_right (bytes_eq q.0 y) (named_in q.0 xs) q.1, q.2)

pub named_either : (x : Name) (xs ys : List Name) → named_in x (xs ++ ys) ≡ true → (named_in x xs ≡ true) ⊎ (named_in x ys ≡ true)
named_either x xs ys e = go (cases_Bool (named_in x xs))
  where
    go : (named_in x xs ≡ true) ⊎ (named_in x xs ≡ false) → (named_in x xs ≡ true) ⊎ (named_in x ys ≡ true)
    go (inl t) = inl t
    go (inr f) = inr (ap (λ c. c || named_in x ys) (sym f) ∙ sym (named_append x xs ys) ∙ e)

pub at_named : (P : Name → Type 0) (x : Name) (xs : List Name) → AllByRecursion P xs → named_in x xs ≡ true → P x
at_named P x [] a e = absurd (false≢true e)
at_named P x (y ∷ xs) a e = go (cases_Bool (bytes_eq x y)) (at_named P x xs a.1)
  where
    go : (bytes_eq x y ≡ true) ⊎ (bytes_eq x y ≡ false) → (named_in x xs ≡ true → P x) → P x
    go (inl t) r = subst P (sym (same_bytes x y t)) a.0
    go (inr f) r = r (rw f at e)

-- ---- members

-- one of a list
abbrev pub IsIn : {X : Type 0} → X → List X → Type 0
IsIn x [] = ⊥
IsIn x (y ∷ ys) = (x ≡ y) ⊎ IsIn x ys

pub in_left : {X : Type 0} (x : X) (xs ys : List X) → IsIn x xs → IsIn x (xs ++ ys)
in_left x [] ys h = absurd h
in_left x (y ∷ xs) ys (inl e) = inl e
in_left x (y ∷ xs) ys (inr h) = inr (in_left x xs ys h)

pub in_right : {X : Type 0} (x : X) (xs ys : List X) → IsIn x ys → IsIn x (xs ++ ys)
in_right x [] ys h = h
in_right x (y ∷ xs) ys h = inr (in_right x xs ys h)

pub in_mapped : {X Y : Type 0} (g : X → Y) (x : X) (xs : List X) → IsIn x xs → IsIn (g x) (map g xs)
in_mapped g x [] h = absurd h
in_mapped g x (y ∷ xs) (inl e) = inl (ap g e)
in_mapped g x (y ∷ xs) (inr h) = inr (in_mapped g x xs h)

pub at_some : (q : Place) (ps : List Place) → IsIn q ps → (n : ℕ) × IsAt n q ps
at_some q [] h = absurd h
at_some q (p ∷ ps) (inl e) = (0, e)
at_some q (p ∷ ps) (inr h) = let r : (n : ℕ) × IsAt n q ps = at_some q ps h in (suc r.0, r.1)
