-- Names that are reached from others, in steps that end.
use Rattle.std.proofs.Common.{◌≡◌, ℕ, zero, suc, ◌<◌, ◌≤◌, ◌+◌, Bool, true, false, cond, not, ◌&&◌, ◌||◌, List, [], ◌∷◌, ◌++◌, length, refl, ap, ◌∙◌, sym, subst, arith}
use Rattle.std.specs.Str.{bytes_eq}
use Rattle.std.proofs.Math.Logic.{◌⊎◌, inl, inr}
use Rattle.std.proofs.lemmas.Bool.{true≢false, false≢true, cases_Bool}
use Rattle.std.proofs.lemmas.List.{append-nil}
use Rattle.lus_tree.specs.Tree.{Name}
use Rattle.lus_meaning.specs.Depends.{named_in}
use Rattle.lus_meaning.specs.NameFaults.{new_among}
use Rattle.lus_meaning.proofs.Unique.{same_bytes}
use Rattle.name_table.proofs.Names.{in_joined, itself}

-- each of these passes the test
abbrev pub AllOf : (Name → Bool) → List Name → Type 0
AllOf test xs = (y : Name) → named_in y xs ≡ true → test y ≡ true

-- the names, and so many times those that are new among what follows from them
abbrev pub grown : (List Name → List Name) → ℕ → List Name → List Name
grown next zero xs = xs
grown next (suc k) xs = grown next k (xs ++ new_among xs (next xs))

-- ---- what is new

module _ (y z : Name) where
  other_new : (c k a : Bool) → bytes_eq y z ≡ false → (named_in y (cond c [] (z ∷ [])) || (a && not (k || (bytes_eq y z || false))))
      ≡ ((bytes_eq y z || a) && not k)
  other_new true true a f = rw f refl
  other_new true false a f = rw f refl
  other_new false true a f = rw f refl
  other_new false false a f = rw f refl

  same_new : (c k a : Bool) → c ≡ k → bytes_eq y z ≡ true → (named_in y (cond c [] (z ∷ [])) || (a && not (k || (bytes_eq y z || false))))
      ≡ ((bytes_eq y z || a) && not k)
  same_new true true true e t = rw t refl
  same_new true true false e t = rw t refl
  same_new true false a e t = absurd (true≢false e)
  same_new false true a e t = absurd (false≢true e)
  same_new false false a e t = rw t refl

in_new : (y : Name) (known zs : List Name) → named_in y (new_among known zs) ≡ (named_in y zs && not (named_in y known))
in_new y known [] = refl
in_new y known (z ∷ zs) =
    in_joined y (cond (named_in z known) [] (z ∷ [])) (new_among (known ++ z ∷ []) zs)
    ∙ (rw (in_new y (known ++ z ∷ []) zs, in_joined y known (z ∷ [])) (go (cases_Bool (bytes_eq y z))))
  where
    go : (bytes_eq y z ≡ true) ⊎ (bytes_eq y z ≡ false) →
        (named_in y (cond (named_in z known) [] (z ∷ [])) || (named_in y zs && not (named_in y known || (bytes_eq y z || false))))
        ≡ ((bytes_eq y z || named_in y zs) && not (named_in y known))
    go (inl t) = same_new y z (named_in z known) (named_in y known) (named_in y zs) (ap (λ x. named_in x known) (sym (same_bytes y z t))) t
    go (inr f) = other_new y z (named_in z known) (named_in y known) (named_in y zs) f

-- ---- one step

or_left : (a b : Bool) → a ≡ true → (a || b) ≡ true
or_left true b e = refl
or_left false b e = absurd (false≢true e)

or_right : (a b : Bool) → b ≡ true → (a || b) ≡ true
or_right true b e = refl
or_right false b e = e

or_parts : (a b : Bool) → (a || b) ≡ true → (a ≡ true) ⊎ (b ≡ true)
or_parts true b e = inl refl
or_parts false b e = inr e

and_first : (a b : Bool) → (a && b) ≡ true → a ≡ true
and_first true b e = refl
and_first false b e = absurd (false≢true e)

and_second : (a b : Bool) → (a && b) ≡ true → b ≡ true
and_second true b e = e
and_second false b e = absurd (false≢true e)

not_is_false : (a : Bool) → not a ≡ true → a ≡ false
not_is_false true e = absurd (false≢true e)
not_is_false false e = refl

pub new_follows : (y : Name) (known zs : List Name) → named_in y (new_among known zs) ≡ true → named_in y zs ≡ true
new_follows y known zs e = and_first (named_in y zs) (not (named_in y known)) (sym (in_new y known zs) ∙ e)

-- how many of these names are not among the others
abbrev pub left_of : List Name → List Name → ℕ
left_of xs [] = 0
left_of xs (u ∷ us) = cond (named_in u xs) 0 1 + left_of xs us

fewer_left : (xs ys us : List Name) → ((y : Name) → named_in y xs ≡ true → named_in y ys ≡ true) → left_of ys us ≤ left_of xs us
fewer_left xs ys [] h = omega arith
fewer_left xs ys (u ∷ us) h = go (cases_Bool (named_in u xs)) (cases_Bool (named_in u ys)) (fewer_left xs ys us h)
  where
    go : (named_in u xs ≡ true) ⊎ (named_in u xs ≡ false) → (named_in u ys ≡ true) ⊎ (named_in u ys ≡ false) → left_of ys us ≤ left_of xs us
        → left_of ys (u ∷ us) ≤ left_of xs (u ∷ us)
    go (inl t) (inl q) r = rw (t, q) (omega (arith, r))
    go (inl t) (inr f) r = absurd (true≢false (sym (h u t) ∙ f))
    go (inr f) (inl q) r = rw (f, q) (omega (arith, r))
    go (inr f) (inr g) r = rw (f, g) (omega (arith, r))

less_left : (xs ys us : List Name) (z : Name) → ((y : Name) → named_in y xs ≡ true → named_in y ys ≡ true) → named_in z us ≡ true
    → named_in z xs ≡ false → named_in z ys ≡ true → left_of ys us < left_of xs us
less_left xs ys [] z h i n e = absurd (false≢true i)
less_left xs ys (u ∷ us) z h i n e = go (cases_Bool (bytes_eq z u)) (λ k. less_left xs ys us z h k n e) (fewer_left xs ys us h)
  where
    first : named_in u xs ≡ false → named_in u ys ≡ true → left_of ys us ≤ left_of xs us → left_of ys (u ∷ us) < left_of xs (u ∷ us)
    first f t r = rw (f, t) (omega (arith, r))

    later : (named_in u xs ≡ true) ⊎ (named_in u xs ≡ false) → (named_in u ys ≡ true) ⊎ (named_in u ys ≡ false) → left_of ys us < left_of xs us
        → left_of ys (u ∷ us) < left_of xs (u ∷ us)
    later (inl t) (inl q) r = rw (t, q) (omega (arith, r))
    later (inl t) (inr f) r = absurd (true≢false (sym (h u t) ∙ f))
    later (inr f) (inl q) r = rw (f, q) (omega (arith, r))
    later (inr f) (inr g) r = rw (f, g) (omega (arith, r))

    go : (bytes_eq z u ≡ true) ⊎ (bytes_eq z u ≡ false) → (named_in z us ≡ true → left_of ys us < left_of xs us) → left_of ys us ≤ left_of xs us
        → left_of ys (u ∷ us) < left_of xs (u ∷ us)
    go (inl t) r l = first (subst (λ x. named_in x xs ≡ false) (same_bytes z u t) n) (subst (λ x. named_in x ys ≡ true) (same_bytes z u t) e) l
    go (inr f) r l = later (cases_Bool (named_in u xs)) (cases_Bool (named_in u ys)) (r (rw f at i))

not_left : (b : Bool) (n : ℕ) → b ≡ false → cond b 0 1 + n ≤ 0 → ⊥
not_left true n e l = true≢false e
not_left false n e l = omega (arith, l)

zero_left : (b : Bool) (n : ℕ) → b ≡ true → cond b 0 1 + n ≤ 0 → n ≤ 0
zero_left true n e l = omega (arith, l)
zero_left false n e l = absurd (false≢true e)

all_left : (xs us : List Name) → left_of xs us ≤ 0 → (y : Name) → named_in y us ≡ true → named_in y xs ≡ true
all_left xs [] l y i = absurd (false≢true i)
all_left xs (u ∷ us) l y i = go (cases_Bool (named_in u xs)) (cases_Bool (bytes_eq y u)) (all_left xs us)
  where
    go : (named_in u xs ≡ true) ⊎ (named_in u xs ≡ false) → (bytes_eq y u ≡ true) ⊎ (bytes_eq y u ≡ false)
        → (left_of xs us ≤ 0 → (y : Name) → named_in y us ≡ true → named_in y xs ≡ true) → named_in y xs ≡ true
    go (inr f) b r = absurd (not_left (named_in u xs) (left_of xs us) f l)
    go (inl t) (inl q) r = subst (λ x. named_in x xs ≡ true) (sym (same_bytes y u q)) t
    go (inl t) (inr f) r = r (zero_left (named_in u xs) (left_of xs us) t l) y (rw f at i)

-- ---- where all that follows is among a list of names

module _ (next : List Name → List Name) (us : List Name) (within : (xs : List Name) (y : Name) → named_in y (next xs) ≡ true → named_in y us ≡ true) where
  abbrev pub IsClosed : List Name → Type 0
  IsClosed xs = (y : Name) → named_in y (next xs) ≡ true → named_in y xs ≡ true

  still : (k : ℕ) (xs : List Name) → new_among xs (next xs) ≡ [] → grown next k xs ≡ xs
  still zero xs e = refl
  still (suc k) xs e = ap (λ zs. grown next k (xs ++ zs)) e ∙ (rw (append-nil xs) (still k xs e))

  nothing_new : (xs : List Name) → new_among xs (next xs) ≡ [] → IsClosed xs
  nothing_new xs e y i = go (cases_Bool (named_in y xs))
    where
      go : (named_in y xs ≡ true) ⊎ (named_in y xs ≡ false) → named_in y xs ≡ true
      go (inl t) = t
      go (inr f) = absurd (false≢true (ap (named_in y) (sym e) ∙ (in_new y xs (next xs) ∙ rw (i, f) refl)))

  kept : (xs : List Name) (y : Name) → named_in y xs ≡ true → named_in y (xs ++ new_among xs (next xs)) ≡ true
  kept xs y e = in_joined y xs (new_among xs (next xs)) ∙ or_left (named_in y xs) (named_in y (new_among xs (next xs))) e

  pub closed_grown : (k : ℕ) (xs : List Name) → left_of xs us ≤ k → IsClosed (grown next k xs)
  closed_grown zero xs l = λ y i. all_left xs us l y (within xs y i)
  closed_grown (suc k) xs l = go (new_among xs (next xs)) refl (closed_grown k (xs ++ new_among xs (next xs)))
    where
      go : (zs : List Name) → new_among xs (next xs) ≡ zs
          → (left_of (xs ++ new_among xs (next xs)) us ≤ k → IsClosed (grown next k (xs ++ new_among xs (next xs)))) → IsClosed (grown next (suc k) xs)
      go [] e r = rw (still (suc k) xs e) (nothing_new xs e)
      go (z ∷ zs) e r =
          let i : named_in z (new_among xs (next xs)) ≡ true = ap (named_in z) e ∙ rw (itself z) refl in
          let j : (named_in z (next xs) && not (named_in z xs)) ≡ true = sym (in_new z xs (next xs)) ∙ i in
          let h : left_of (xs ++ new_among xs (next xs)) us < left_of xs us =
          less_left xs (xs ++ new_among xs (next xs)) us z (kept xs)
          (within xs z (and_first (named_in z (next xs)) (not (named_in z xs)) j))
          (not_is_false (named_in z xs) (and_second (named_in z (next xs)) (not (named_in z xs)) j))
          (in_joined z xs (new_among xs (next xs)) ∙ or_right (named_in z xs) (named_in z (new_among xs (next xs))) i) in
          r (omega (arith, h, l))

  left_all : (xs vs : List Name) → left_of xs vs ≤ length vs
  left_all xs [] = omega arith
  left_all xs (v ∷ vs) = go (named_in v xs) (left_all xs vs)
    where
      go : (b : Bool) → left_of xs vs ≤ length vs → cond b 0 1 + left_of xs vs ≤ suc (length vs)
      go true r = omega (arith, r)
      go false r = omega (arith, r)

  pub closed_after : (k : ℕ) (xs : List Name) → length us ≤ k → IsClosed (grown next k xs)
  closed_after k xs l = closed_grown k xs (let h : left_of xs us ≤ length us = left_all xs us in omega (arith, h, l))

-- ---- what all of them pass

module _ (next : List Name → List Name) where
  pub starts_grown : (k : ℕ) (xs : List Name) (y : Name) → named_in y xs ≡ true → named_in y (grown next k xs) ≡ true
  starts_grown zero xs y e = e
  starts_grown (suc k) xs y e = starts_grown k (xs ++ new_among xs (next xs)) y
      (in_joined y xs (new_among xs (next xs)) ∙ or_left (named_in y xs) (named_in y (new_among xs (next xs))) e)

  module _ (test : Name → Bool) (on : (xs : List Name) → AllOf test xs → AllOf test (next xs)) where
    pub all_grown : (k : ℕ) (xs : List Name) → AllOf test xs → AllOf test (grown next k xs)
    all_grown zero xs a = a
    all_grown (suc k) xs a = all_grown k (xs ++ new_among xs (next xs)) step
      where
        part : (y : Name) → (named_in y xs ≡ true) ⊎ (named_in y (new_among xs (next xs)) ≡ true) → test y ≡ true
        part y (inl t) = a y t
        part y (inr n) = on xs a y (and_first (named_in y (next xs)) (not (named_in y xs)) (sym (in_new y xs (next xs)) ∙ n))

        step : AllOf test (xs ++ new_among xs (next xs))
        step y e = part y (or_parts (named_in y xs) (named_in y (new_among xs (next xs))) (sym (in_joined y xs (new_among xs (next xs))) ∙ e))
