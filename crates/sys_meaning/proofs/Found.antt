-- What is numbered from 1 on is found by its number, as it stands and in the order of its numbers.
use Rattle.std.proofs.Common.{◌≡◌, ℕ, zero, suc, ◌<◌, ◌≤◌, ◌+◌, Bool, true, false, cond, ◌&&◌, eqb, List, [], ◌∷◌, ◌++◌, map, flat_map, length, refl, ◌∙◌, sym, arith, Option, Some, None}
use Rattle.std.specs.Prelude.{◌==◌, option_to_list}
use Rattle.std.specs.List.{AllByRecursion, find, list_all}
use Rattle.std.proofs.Math.Logic.{◌⊎◌, inl, inr}
use Rattle.std.proofs.lemmas.Bool.{false≢true, eq-eqb, ne_eqb, eqb-true, eqb-false, cases_Bool}
use Rattle.lus_tree.specs.Numbers.{counting, times, are_counted}
use Rattle.lus_meaning.specs.Program.{in_order}
use Rattle.lus_meaning.proofs.Lists.{all_from, all_from_both, both_parts, mapped_all}
use Rattle.lus_meaning.proofs.InOrder.{counted_within}
use Rattle.sys_meaning.proofs.Follows.{some_same, none_some}

pub self_number : (k : ℕ) → (k == k) ≡ true
self_number k = eq-eqb k k refl

pub turned : (k j : ℕ) → (k == j) ≡ (j == k)
turned k j = go (cases_Bool (eqb j k))
  where
    go : (eqb j k ≡ true) ⊎ (eqb j k ≡ false) → (k == j) ≡ (j == k)
    go (inl t) = eq-eqb k j (sym (eqb-true j k t)) ∙ sym t
    go (inr f) = ne_eqb k j (λ e. eqb-false j k f (sym e)) ∙ sym f

-- ---- numbers of which each stands once

listed_so : (f : ℕ → Bool) (m n : ℕ) → list_all f (counting m n) ≡ true → (k : ℕ) → m ≤ k → k < m + n → f k ≡ true
listed_so f m zero e k a b = absurd (omega arith)
listed_so f m (suc n) e k a b =
    go (f m) refl e (cases_Bool (eqb m k)) (λ e l. listed_so f (suc m) n e k l (omega arith))
  where
    go : (c : Bool) → f m ≡ c → (c && list_all f (counting (suc m) n)) ≡ true → (eqb m k ≡ true) ⊎ (eqb m k ≡ false) →
        (list_all f (counting (suc m) n) ≡ true → suc m ≤ k → f k ≡ true) → f k ≡ true
    go true q e (inl t) r = let same : m ≡ k = eqb-true m k t in rw (sym same) q
    go true q e (inr o) r = let other : m ≡ k → ⊥ = eqb-false m k o in r e (omega (arith, other, a))
    go false q e h r = absurd (false≢true e)

pub once : (ks : List ℕ) → are_counted ks ≡ true → (k : ℕ) → 1 ≤ k → k < 1 + length ks → times k ks ≡ 1
once ks e k a b =
    eqb-true (times k ks) 1 (listed_so (λ k. times k ks == 1) 1 (length ks) e k a b)

module _ {A : Type 0} (at : A → ℕ) where
  abbrev pub found : ℕ → List A → Option A
  found k xs = find (λ x. at x == k) xs

  times_more : (k j : ℕ) (ks : List ℕ) → times k ks ≤ times k (j ∷ ks)
  times_more k j ks = go (eqb k j)
    where
      go : (c : Bool) → times k ks ≤ cond c (suc (times k ks)) (times k ks)
      go true = omega arith
      go false = omega arith

  -- each stands at least once
  stands_there : (xs : List A) → AllByRecursion (λ x. 1 ≤ times (at x) (map at xs)) xs
  stands_there [] = tt
  stands_there (x ∷ xs) = (
    rw (eq-eqb (at x) (at x) refl) (omega arith),
    all_from (λ z. 1 ≤ times (at z) (map at xs)) (λ z. 1 ≤ times (at z) (at x ∷ map at xs))
        (λ z l. let m : times (at z) (map at xs) ≤ times (at z) (at x ∷ map at xs) =
        times_more (at z) (at x) (map at xs) in omega (arith, l, m)) xs (stands_there xs),
  )

  -- it is another than the first
  record Later (x z : A) (xs : List A) : Type 0 where
    other : eqb (at z) (at x) ≡ false
    one : times (at z) (map at xs) ≡ 1

  later : (x z : A) (xs : List A) → times (at z) (at x ∷ map at xs) ≡ 1 → 1 ≤ times (at z) (map at xs) → Later x z xs
  later x z xs e l = go (eqb (at z) (at x)) refl e
    where
      go : (c : Bool) → eqb (at z) (at x) ≡ c →
          cond c (suc (times (at z) (map at xs))) (times (at z) (map at xs)) ≡ 1 → Later x z xs
      go true q h = absurd (omega (arith, h, l))
      go false q h = record { other = q; one = h }

  found_each : (xs : List A) → AllByRecursion (λ x. times (at x) (map at xs) ≡ 1) xs →
      AllByRecursion (λ x. found (at x) xs ≡ Some x) xs
  found_each [] a = tt
  found_each (x ∷ xs) a =
      let rest : AllByRecursion (λ z. Later x z xs) xs =
      all_from_both (λ z. times (at z) (at x ∷ map at xs) ≡ 1) (λ z. 1 ≤ times (at z) (map at xs)) (λ z. Later x z xs)
      (λ z e l. later x z xs e l) xs a.1 (stands_there xs) in
      let there : AllByRecursion (λ z. found (at z) xs ≡ Some z) xs =
      found_each xs (all_from (λ z. Later x z xs) (λ z. times (at z) (map at xs) ≡ 1) (λ z l. l.one) xs rest) in (
        rw (self_number (at x)) refl,
        all_from_both (λ z. Later x z xs) (λ z. found (at z) xs ≡ Some z) (λ z. found (at z) (x ∷ xs) ≡ Some z)
            (λ z l e. rw (turned (at x) (at z), l.other) e) xs rest there,
      )

  -- each is found by its number
  pub all_found : (xs : List A) → are_counted (map at xs) ≡ true → AllByRecursion (λ x. found (at x) xs ≡ Some x) xs
  all_found xs e = found_each xs (all_from (λ x. (1 ≤ at x) × (at x < 1 + length (map at xs)))
      (λ x. times (at x) (map at xs) ≡ 1) (λ x l. once (map at xs) e (at x) l.0 l.1) xs
      (mapped_all (λ k. (1 ≤ k) × (k < 1 + length (map at xs))) at xs (counted_within (map at xs) e)))

  pub found_number : (k : ℕ) (xs : List A) (x : A) → found k xs ≡ Some x → at x ≡ k
  found_number k [] x e = absurd (none_some x e)
  found_number k (y ∷ xs) x e = go (at y == k) refl e (found_number k xs x)
    where
      go : (c : Bool) → (at y == k) ≡ c → cond c (Some y) (found k xs) ≡ Some x →
          (found k xs ≡ Some x → at x ≡ k) → at x ≡ k
      go true q h r = let same : y ≡ x = some_same y x h in rw (sym same) (eqb-true (at y) k q)
      go false q h r = r h

  -- a number that stands there is that of some
  pub some_found : (k : ℕ) (xs : List A) → 1 ≤ times k (map at xs) → (x : A) × (found k xs ≡ Some x)
  some_found k [] l = absurd (omega arith)
  some_found k (x ∷ xs) l = go (eqb k (at x)) refl l (some_found k xs)
    where
      go : (c : Bool) → eqb k (at x) ≡ c → 1 ≤ cond c (suc (times k (map at xs))) (times k (map at xs)) →
          (1 ≤ times k (map at xs) → (z : A) × (found k xs ≡ Some z)) → (z : A) × (found k (x ∷ xs) ≡ Some z)
      go true q l r = (x, rw (turned (at x) k, q) refl)
      go false q l r = let z = r l in (z.0, rw (turned (at x) k, q) z.1)

  -- ---- in order

  abbrev taken : List A → ℕ → List A
  taken xs k = option_to_list (find (λ x. at x == k) xs)

  taken_number : (xs : List A) (k : ℕ) → AllByRecursion (λ x. at x ≡ k) (taken xs k)
  taken_number xs k = go (found k xs) refl
    where
      go : (o : Option A) → found k xs ≡ o → AllByRecursion (λ x. at x ≡ k) (option_to_list o)
      go None e = tt
      go (Some x) e = (found_number k xs x e, tt)

  skip : (k : ℕ) (ys zs : List A) → AllByRecursion (λ y. (at y == k) ≡ false) ys → found k (ys ++ zs) ≡ found k zs
  skip k [] zs a = refl
  skip k (y ∷ ys) zs a = rw a.0 (skip k ys zs a.1)

  found_from : (xs : List A) (k : ℕ) (x : A) → found k xs ≡ Some x → (m n : ℕ) → m ≤ k → k < m + n →
      found k (flat_map (taken xs) (counting m n)) ≡ Some x
  found_from xs k x e m zero a b = absurd (omega arith)
  found_from xs k x e m (suc n) a b = go (cases_Bool (eqb m k)) (λ l. found_from xs k x e (suc m) n l (omega arith))
    where
      go : (eqb m k ≡ true) ⊎ (eqb m k ≡ false) →
          (suc m ≤ k → found k (flat_map (taken xs) (counting (suc m) n)) ≡ Some x) →
          found k (taken xs m ++ flat_map (taken xs) (counting (suc m) n)) ≡ Some x
      go (inl t) r =
          let same : m ≡ k = eqb-true m k t in
          let number : (at x == k) ≡ true = eq-eqb (at x) k (found_number k xs x e) in
          rw (same, e, number) refl
      go (inr f) r =
          let other : m ≡ k → ⊥ = eqb-false m k f in
          skip k (taken xs m) (flat_map (taken xs) (counting (suc m) n))
          (all_from (λ y. at y ≡ m) (λ y. (at y == k) ≡ false) (λ y q. rw q f) (taken xs m) (taken_number xs m))
          ∙ r (omega (arith, other, a))

  -- the same is found in order
  pub found_in_order : (xs : List A) (k : ℕ) (x : A) → found k xs ≡ Some x → 1 ≤ k → k < 1 + length xs →
      found k (in_order at xs) ≡ Some x
  found_in_order xs k x e a b = found_from xs k x e 1 (length xs) a b

  -- of which no two have one number
  abbrev pub Differ : List A → Type 0
  Differ [] = Unit {0}
  Differ (x ∷ xs) = AllByRecursion (λ y. (at y == at x) ≡ false) xs × Differ xs

  differ_both : (ys zs : List A) → Differ ys → Differ zs →
      AllByRecursion (λ y. AllByRecursion (λ z. (at z == at y) ≡ false) zs) ys → Differ (ys ++ zs)
  differ_both [] zs a b c = b
  differ_both (y ∷ ys) zs a b c =
      (both_parts (λ z. (at z == at y) ≡ false) ys zs a.0 c.0, differ_both ys zs a.1 b c.1)

  numbers_from : (xs : List A) (m n : ℕ) → AllByRecursion (λ y. m ≤ at y) (flat_map (taken xs) (counting m n))
  numbers_from xs m zero = tt
  numbers_from xs m (suc n) = both_parts (λ y. m ≤ at y) (taken xs m) (flat_map (taken xs) (counting (suc m) n))
      (all_from (λ y. at y ≡ m) (λ y. m ≤ at y) (λ y e. omega (arith, e)) (taken xs m) (taken_number xs m))
      (all_from (λ y. suc m ≤ at y) (λ y. m ≤ at y) (λ y l. omega (arith, l))
      (flat_map (taken xs) (counting (suc m) n)) (numbers_from xs (suc m) n))

  one_differs : (o : Option A) → Differ (option_to_list o)
  one_differs None = tt
  one_differs (Some x) = (tt, tt)

  differ_from : (xs : List A) (m n : ℕ) → Differ (flat_map (taken xs) (counting m n))
  differ_from xs m zero = tt
  differ_from xs m (suc n) =
      differ_both (taken xs m) (flat_map (taken xs) (counting (suc m) n)) (one_differs (found m xs))
      (differ_from xs (suc m) n) (all_from (λ y. at y ≡ m)
      (λ y. AllByRecursion (λ z. (at z == at y) ≡ false) (flat_map (taken xs) (counting (suc m) n)))
      (λ y e. all_from (λ z. suc m ≤ at z) (λ z. (at z == at y) ≡ false)
      (λ z l. ne_eqb (at z) (at y) (λ q. omega (arith, e, l, q)))
      (flat_map (taken xs) (counting (suc m) n)) (numbers_from xs (suc m) n)) (taken xs m) (taken_number xs m))

  pub in_order_differ : (xs : List A) → Differ (in_order at xs)
  in_order_differ xs = differ_from xs 1 (length xs)
