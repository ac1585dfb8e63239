-- Where nothing needs itself, each place has a rank above all that it needs: how many places it needs.
use Rattle.std.proofs.Common.{◌≡◌, ℕ, suc, ◌<◌, ◌≤◌, Bool, true, false, cond, List, [], ◌∷◌, length, refl, sym, subst, arith}
use Rattle.std.proofs.Math.Logic.{◌⊎◌, inl, inr}
use Rattle.std.proofs.lemmas.Bool.{false≢true, cases_Bool}
use Rattle.lus_meaning.specs.Scene.{Instance}
use Rattle.lus_meaning.specs.Cycle.{Place, Lowers}
use Rattle.lus_meaning.proofs.Members.{IsIn}
use Rattle.clock_laws.proofs.AllPlaces.{same_spot, spots_equal, all_places, is_member, member_in, spot_complete}
use Rattle.clock_laws.proofs.Reaching.{RouteOf, needed_by, at_in}
use Rattle.clock_laws.proofs.Routes.{by_way, route_of, decided}

-- ---- counting

abbrev count_of : {A : Type 0} → (A → Bool) → List A → ℕ
count_of f [] = 0
count_of f (x ∷ xs) = cond (f x) (suc (count_of f xs)) (count_of f xs)

step_most : (a b : Bool) (m n : ℕ) → (a ≡ true → b ≡ true) → m ≤ n → cond a (suc m) m ≤ cond b (suc n) n
step_most true true m n h l = omega arith
step_most true false m n h l = absurd (false≢true (h refl))
step_most false true m n h l = omega arith
step_most false false m n h l = l

count_most : {A : Type 0} (f g : A → Bool) → ((x : A) → f x ≡ true → g x ≡ true) → (xs : List A) → count_of f xs ≤ count_of g xs
count_most f g h [] = omega arith
count_most f g h (x ∷ xs) = step_most (f x) (g x) (count_of f xs) (count_of g xs) (h x) (count_most f g h xs)

step_less : (a b : Bool) (m n : ℕ) → (a ≡ true → b ≡ true) → m < n → cond a (suc m) m < cond b (suc n) n
step_less true true m n h l = omega arith
step_less true false m n h l = absurd (false≢true (h refl))
step_less false true m n h l = omega arith
step_less false false m n h l = l

-- what is counted once more counts more
count_less : {A : Type 0} (f g : A → Bool) → ((x : A) → f x ≡ true → g x ≡ true) → (q : A) → f q ≡ false → g q ≡ true → (xs : List A) → IsIn q xs
    → count_of f xs < count_of g xs
count_less f g h q a b [] i = absurd i
count_less f g h q a b (x ∷ xs) (inl e) = here (f x) (g x) (subst (λ y. f y ≡ false) e a) (subst (λ y. g y ≡ true) e b) (count_most f g h xs)
  where
    here : (c d : Bool) → c ≡ false → d ≡ true → count_of f xs ≤ count_of g xs → cond c (suc (count_of f xs)) (count_of f xs) < cond d
        (suc (count_of g xs)) (count_of g xs)
    here true d u v l = absurd (false≢true (sym u))
    here false true u v l = omega arith
    here false false u v l = absurd (false≢true v)
count_less f g h q a b (x ∷ xs) (inr i) = step_less (f x) (g x) (count_of f xs) (count_of g xs) (h x) (count_less f g h q a b xs i)

count_within : {A : Type 0} (f : A → Bool) (xs : List A) → count_of f xs ≤ length xs
count_within f [] = omega arith
count_within f (x ∷ xs) = go (f x) (count_within f xs)
  where
    go : (c : Bool) → count_of f xs ≤ length xs → cond c (suc (count_of f xs)) (count_of f xs) ≤ suc (length xs)
    go true l = omega arith
    go false l = omega arith

-- ---- ranks

module _ (i : Instance) where
  abbrev needs_place : Place → Place → Bool
  needs_place p q = by_way same_spot spots_equal (needed_by i) (all_places i) p q

  abbrev height : List Place → ℕ → ℕ
  height [] b = 0
  height (q ∷ qs) b = suc b

  abbrev pub rank_here : Place → ℕ
  rank_here p = height (needed_by i p) (count_of (needs_place p) (all_places i))

  module _ (never : (q : Place) (ms : List Place) → RouteOf i q ms q → ⊥) where
    more_needed : (p q : Place) → IsIn q (needed_by i p) → (s : Place) → needs_place q s ≡ true → needs_place p s ≡ true
    more_needed p q h s e =
        let r : (ms : List Place) × RouteOf i q ms s = route_of same_spot spots_equal (needed_by i) (all_places i) q s e in
        decided same_spot spots_equal (needed_by i) (all_places i) (spot_complete i) p (q ∷ r.0) s (is_member q (needed_by i p) h, r.1)

    not_itself : (q : Place) → needs_place q q ≡ false
    not_itself q = go (cases_Bool (needs_place q q))
      where
        go : (needs_place q q ≡ true) ⊎ (needs_place q q ≡ false) → needs_place q q ≡ false
        go (inl t) = let r : (ms : List Place) × RouteOf i q ms q = route_of same_spot spots_equal (needed_by i) (all_places i) q q t in absurd (never
            q r.0 r.1)
        go (inr f) = f

    fewer : (p q s : Place) → IsIn q (needed_by i p) → IsIn s (needed_by i q)
        → count_of (needs_place q) (all_places i) < count_of (needs_place p) (all_places i)
    fewer p q s h g = count_less (needs_place q) (needs_place p) (more_needed p q h) q (not_itself q)
        (decided same_spot spots_equal (needed_by i) (all_places i) (spot_complete i) p [] q (is_member q (needed_by i p) h)) (all_places i)
        (member_in q (all_places i) (spot_complete i q s (is_member s (needed_by i q) g)))

    lower : (p q : Place) (ps qs : List Place) → IsIn q ps → needed_by i p ≡ ps → needed_by i q ≡ qs
        → height qs (count_of (needs_place q) (all_places i)) < height
        ps (count_of (needs_place p) (all_places i))
    lower p q [] qs h e f = absurd h
    lower p q (x ∷ ps) [] h e f = omega arith
    lower p q (x ∷ ps) (y ∷ qs) h e f =
        let l : count_of (needs_place q) (all_places i) < count_of (needs_place p) (all_places i) = fewer p q y (subst (IsIn q) (sym e) h)
        (subst (IsIn y) (sym f) (inl refl)) in omega arith

    pub rank_lowers : Lowers i rank_here
    rank_lowers p q k h = lower p q (needed_by i p) (needed_by i q) (at_in k q (needed_by i p) h) refl refl

  pub rank_bound : (p : Place) → rank_here p < suc (suc (length (all_places i)))
  rank_bound p = go (needed_by i p)
    where
      go : (qs : List Place) → height qs (count_of (needs_place p) (all_places i)) < suc (suc (length (all_places i)))
      go [] = omega arith
      go (q ∷ qs) = let l : count_of (needs_place p) (all_places i) ≤ length (all_places i) = count_within (needs_place p) (all_places i) in omega arith
