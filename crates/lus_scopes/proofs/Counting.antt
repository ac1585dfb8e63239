-- How often a name stands in a list, and one more name.
use Rattle.std.proofs.Common.{◌≡◌, Bool, true, false, cond, ◌||◌, List, [], ◌∷◌, ◌++◌, filter, Option, Some, refl, ap, ◌∙◌, sym}
use Rattle.std.specs.Prelude.{is_some}
use Rattle.std.specs.Str.{bytes_eq}
use Rattle.std.proofs.Math.Logic.{◌⊎◌, inl, inr}
use Rattle.std.proofs.lemmas.Bool.{cases_Bool}
use Rattle.std.proofs.lemmas.List.{append-nil}
use Rattle.std.proofs.lemmas.List.Elements.{filter-append}
use Rattle.lus_tree.specs.Tree.{Name}
use Rattle.lus_meaning.specs.Depends.{named_in}
use Rattle.lus_meaning.proofs.Unique.{same_bytes}
use Rattle.lus_scopes.specs.Counts.{is_several, often_in}

there : (x : Name) (fs : List Name) → is_some (is_several (x ∷ fs)) ≡ true
there x [] = refl
there x (y ∷ fs) = refl

pub seen_often : (x : Name) (ys : List Name) → is_some (often_in x ys) ≡ named_in x ys
seen_often x [] = refl
seen_often x (y ∷ ys) = go (bytes_eq x y) (seen_often x ys)
  where
    go : (b : Bool) → is_some (often_in x ys) ≡ named_in x ys → is_some (is_several (cond b (y ∷ filter (bytes_eq x) ys) (filter (bytes_eq x) ys)))
        ≡ (b || named_in x ys)
    go true h = there y (filter (bytes_eq x) ys)
    go false h = h

several_more : (fs : List Name) (n : Name) → is_several (fs ++ n ∷ []) ≡ Some (is_some (is_several fs))
several_more [] n = refl
several_more (f ∷ []) n = refl
several_more (f ∷ g ∷ fs) n = refl

one_more : (ys : List Name) (x n : Name) → often_in x (ys ++ n ∷ []) ≡ cond (bytes_eq x n) (Some (is_some (often_in n ys))) (often_in x ys)
one_more ys x n = ap is_several (filter-append (bytes_eq x) ys (n ∷ [])) ∙ go (cases_Bool (bytes_eq x n))
  where
    go : (bytes_eq x n ≡ true) ⊎ (bytes_eq x n ≡ false) → is_several (filter (bytes_eq x) ys ++ filter (bytes_eq x) (n ∷ []))
        ≡ cond (bytes_eq x n) (Some (is_some (often_in n ys))) (often_in x ys)
    go (inl t) = rw t (several_more (filter (bytes_eq x) ys) n ∙ ap (λ (z : Name). Some (is_some (often_in z ys))) (same_bytes x n t))
    go (inr f) = rw (f, append-nil (filter (bytes_eq x) ys)) refl

pub pushed : (old new : Name → Option Bool) (ys : List Name) (n : Name) → ((x : Name) → old x ≡ often_in x ys)
    → ((x : Name) → new x ≡ cond (bytes_eq x n) (Some (is_some (old n))) (old x)) → (x : Name) → new x ≡ often_in x (ys ++ n ∷ [])
pushed old new ys n i h x =
    h x ∙ ap (λ (o : Option Bool). cond (bytes_eq x n) (Some (is_some o)) (old x)) (i n)
    ∙ ap (λ (o : Option Bool). cond (bytes_eq x n) (Some (is_some (often_in n ys))) o) (i x) ∙ sym (one_more ys x n)
