-- The number of a name, and the name of a number.
use Rattle.std.proofs.Common.{◌≡◌, ℕ, zero, suc, ◌<◌, Bool, true, false, cond, ◌||◌, List, [], ◌∷◌, length, get_or, refl, ap, ◌∙◌, sym, subst, arith}
use Rattle.std.specs.Str.{bytes_eq}
use Rattle.std.proofs.Math.Logic.{◌⊎◌, inl, inr}
use Rattle.std.proofs.lemmas.Bool.{true≢false, false≢true, cases_Bool}
use Rattle.lus_tree.specs.Tree.{Name}
use Rattle.lus_meaning.specs.Depends.{named_in}
use Rattle.lus_meaning.specs.WellMade.{AreDistinct}
use Rattle.lus_meaning.proofs.Unique.{same_bytes}
use Rattle.name_table.specs.Names.{number_of}
use Rattle.name_table.proofs.Names.{itself}

pub number_below : (ys : List Name) (x : Name) → named_in x ys ≡ true → number_of ys x < length ys
number_below [] x e = absurd (false≢true e)
number_below (y ∷ ys) x e = go (cases_Bool (bytes_eq x y)) (number_below ys x)
  where
    go : (bytes_eq x y ≡ true) ⊎ (bytes_eq x y ≡ false) → (named_in x ys ≡ true → number_of ys x < length ys) → cond (bytes_eq x y) 0
        (suc (number_of ys x)) < suc (length ys)
    go (inl t) r = rw t (omega arith)
    go (inr f) r = let h : number_of ys x < length ys = r (rw f at e) in rw f (omega arith)

pub name_of_number : (ys : List Name) (x : Name) → named_in x ys ≡ true → get_or ys (number_of ys x) [] ≡ x
name_of_number [] x e = absurd (false≢true e)
name_of_number (y ∷ ys) x e = go (cases_Bool (bytes_eq x y)) (name_of_number ys x)
  where
    go : (bytes_eq x y ≡ true) ⊎ (bytes_eq x y ≡ false) → (named_in x ys ≡ true → get_or ys (number_of ys x) [] ≡ x) → get_or (y ∷ ys)
        (cond (bytes_eq x y) 0 (suc (number_of ys x))) [] ≡ x
    go (inl t) r = rw t (sym (same_bytes x y t))
    go (inr f) r = rw f (r (rw f at e))

pub in_list : (xs : List Name) (j : ℕ) → j < length xs → named_in (get_or xs j []) xs ≡ true
in_list [] j l = absurd (omega arith)
in_list (x ∷ xs) zero l = rw (itself x) refl
in_list (x ∷ xs) (suc j) l = go (bytes_eq (get_or xs j []) x) (in_list xs j (omega arith))
  where
    go : (c : Bool) → named_in (get_or xs j []) xs ≡ true → (c || named_in (get_or xs j []) xs) ≡ true
    go true h = refl
    go false h = h

pub number_at : (xs : List Name) → AreDistinct xs → (j : ℕ) → j < length xs → number_of xs (get_or xs j []) ≡ j
number_at [] d j l = absurd (omega arith)
number_at (x ∷ xs) d zero l = rw (itself x) refl
number_at (x ∷ xs) d (suc j) l = go (cases_Bool (bytes_eq (get_or xs j []) x)) (number_at xs d.1 j (omega arith))
  where
    go : (bytes_eq (get_or xs j []) x ≡ true) ⊎ (bytes_eq (get_or xs j []) x ≡ false) → number_of xs (get_or xs j []) ≡ j → cond
        (bytes_eq (get_or xs j []) x) 0 (suc (number_of xs (get_or xs j []))) ≡ suc j
    go (inl t) r = absurd (true≢false (sym (subst (λ w. named_in w xs ≡ true) (same_bytes (get_or xs j []) x t) (in_list xs j (omega arith))) ∙ d.0))
    go (inr f) r = rw f (ap suc r)
