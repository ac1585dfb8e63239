-- The next of what is to come.
use Rattle.std.proofs.Common.{◌≡◌, ◌∙◌, add-one, ℕ, suc, ◌+◌, ◌<◌, ◌≤◌, List, [], ◌∷◌, ◌++◌, Option, drop, map, flat_map, length, get_or, refl, ap, sym, subst}
use Rattle.std.proofs.Math.Seq.{drop-cons}
use Rattle.std.proofs.lemmas.List.{drop_all}
use Rattle.lus_tree.specs.Reason.{Refused}
use Rattle.lus_scopes.specs.Notes.{Notes}
use Rattle.lus_scopes.proofs.Noting.{both_noted, nothing_noted}

pub dropped : {X : Type 0} (xs : List X) (i : ℕ) (x : X) → i < length xs → x ≡ get_or xs i x → drop i xs ≡ x ∷ drop (i + 1) xs
dropped xs i x h e = rw add-one (drop-cons xs i x h ∙ ap (λ y. y ∷ drop (suc i) xs) (sym e))

-- ---- faults that are noted as a loop goes on

-- once those of the things to come are noted, those of all are
abbrev pub OnTheWay : {X : Type 0} → (X → List Refused) → List X → ℕ → Option Refused → Option Refused → Type 0
OnTheWay f xs i start now = (q : Option Refused) → Notes now q (flat_map f (drop i xs)) → Notes start q (flat_map f xs)

pub way_next : {X : Type 0} (f : X → List Refused) (xs : List X) (i : ℕ) (x : X) (s o q : Option Refused) → i < length xs → x ≡ get_or xs i x
    → OnTheWay f xs i s o → Notes o q (f x) → OnTheWay f xs (i + 1) s q
way_next f xs i x s o q h e w n r m =
    w r (subst (λ zs. Notes o r (flat_map f zs)) (sym (dropped xs i x h e)) (both_noted o q r (f x) (flat_map f (drop (i + 1) xs)) n m))

pub way_end : {X : Type 0} (f : X → List Refused) (xs : List X) (i : ℕ) (s o : Option Refused) → length xs ≤ i
    → OnTheWay f xs i s o → Notes s o (flat_map f xs)
way_end f xs i s o h w = w o (subst (λ zs. Notes o o (flat_map f zs)) (sym (drop_all i xs h)) (nothing_noted o))

pub over_views : {X Y A : Type 0} (f : Y → List A) (v : X → Y) (xs : List X) → flat_map f (map v xs) ≡ flat_map (λ x. f (v x)) xs
over_views f v [] = refl
over_views f v (x ∷ xs) = ap (λ ys. f (v x) ++ ys) (over_views f v xs)

-- the same, of what is seen of the things
pub way_end_of_views : {X Y : Type 0} (f : Y → List Refused) (v : X → Y) (xs : List X) (i : ℕ) (s o : Option Refused) → length xs ≤ i
    → OnTheWay (λ x. f (v x)) xs i s o → Notes s o (flat_map f (map v xs))
way_end_of_views f v xs i s o h w = rw (over_views f v xs) (way_end (λ x. f (v x)) xs i s o h w)
