-- What is numbered from 1 on stands at the place of its number.
use Rattle.std.proofs.Common.{◌≡◌, ℕ, zero, suc, ◌<◌, ◌≤◌, ◌+◌, Bool, true, false, cond, eqb, List, [], ◌∷◌, ◌++◌, map, flat_map, length, Some, refl, sym, ap, ◌∙◌, subst, arith}
use Rattle.std.specs.Prelude.{◌==◌, pred, option_to_list}
use Rattle.std.specs.List.{AllByRecursion, find, list_all}
use Rattle.std.proofs.Math.Logic.{◌⊎◌, inl, inr}
use Rattle.std.proofs.lemmas.Bool.{eq-eqb, ne_eqb, eqb-true, eqb-false, cases_Bool}
use Rattle.lus_tree.specs.Numbers.{counting, times, are_counted}
use Rattle.lus_meaning.specs.Program.{in_order}
use Rattle.lus_meaning.proofs.InOrder.{counted_within}
use Rattle.lus_meaning.proofs.Lists.{all_from, all_from_both, mapped_all}
use Rattle.rule_laws.proofs.Truths.{both_true}

-- x stands at that place, counted from 0
abbrev pub At : {A : Type 0} → List A → ℕ → A → Type 0
At [] k x = ⊥
At (y ∷ ys) zero x = y ≡ x
At (y ∷ ys) (suc k) x = At ys k x

-- a test of all numbers from m on
at_counting : (test : ℕ → Bool) (n m k : ℕ) → list_all test (counting m n) ≡ true → m ≤ k → k < m + n → test k ≡ true
at_counting test zero m k e a b = absurd (omega arith)
at_counting test (suc n) m k e a b = go (cases_Bool (eqb m k)) (both_true (test m) (list_all test (counting (suc m) n)) e) (at_counting test n (suc m) k)
  where
    go : (eqb m k ≡ true) ⊎ (eqb m k ≡ false) → (test m ≡ true) × (list_all test (counting (suc m) n) ≡ true) →
        (list_all test (counting (suc m) n) ≡ true → suc m ≤ k → k < suc m + n → test k ≡ true) → test k ≡ true
    go (inl h) q r = subst (λ j. test j ≡ true) (eqb-true m k h) q.0
    go (inr h) q r = r q.1 (later (eqb-false m k h)) (omega arith)
      where
        later : (m ≡ k → ⊥) → suc m ≤ k
        later d = omega arith

module _ {A : Type 0} (at : A → ℕ) where
  abbrev taken : List A → ℕ → List A
  taken xs k = option_to_list (find (λ x. at x == k) xs)

  -- a number that stands there is found
  record One (xs : List A) (k : ℕ) : Type 0 where
    item : A
    is : find (λ x. at x == k) xs ≡ Some item

  some_found : (xs : List A) (k : ℕ) → 1 ≤ times k (map at xs) → One xs k
  some_found [] k l = absurd (omega arith)
  some_found (x ∷ xs) k l = go (cases_Bool (eqb k (at x))) l (some_found xs k)
    where
      go : (eqb k (at x) ≡ true) ⊎ (eqb k (at x) ≡ false) → 1 ≤ cond (eqb k (at x)) (suc (times k (map at xs))) (times k (map at xs)) →
          (1 ≤ times k (map at xs) → One xs k) → One (x ∷ xs) k
      go (inl h) m r = record { item = x; is = ap (λ c. cond c (Some x) (find (λ y. at y == k) xs)) (eq-eqb (at x) k (sym (eqb-true k (at x) h))) }
      go (inr h) m r =
          let q : One xs k = r (subst (λ c. 1 ≤ cond c (suc (times k (map at xs))) (times k (map at xs))) h m) in
          record { item = q.item; is = ap (λ c. cond c (Some x) (find (λ y. at y == k) xs)) (ne_eqb (at x) k (λ e. eqb-false k (at x) h (sym e))) ∙ q.is }

  there : (xs : List A) → AllByRecursion (λ x. 1 ≤ times (at x) (map at xs)) xs
  there [] = tt
  there (x ∷ xs) = (first (eq-eqb (at x) (at x) refl), later xs (there xs))
    where
      first : eqb (at x) (at x) ≡ true → 1 ≤ cond (eqb (at x) (at x)) (suc (times (at x) (map at xs))) (times (at x) (map at xs))
      first e = subst (λ c. 1 ≤ cond c (suc (times (at x) (map at xs))) (times (at x) (map at xs))) (sym e) (omega arith)

      over : (c : Bool) (k : ℕ) → 1 ≤ k → 1 ≤ cond c (suc k) k
      over true k l = omega arith
      over false k l = l

      later : (ys : List A) → AllByRecursion (λ y. 1 ≤ times (at y) (map at xs)) ys → AllByRecursion
          (λ y. 1 ≤ cond (eqb (at y) (at x)) (suc (times (at y) (map at xs))) (times (at y) (map at xs))) ys
      later [] a = tt
      later (y ∷ ys) a = (over (eqb (at y) (at x)) (times (at y) (map at xs)) a.0, later ys a.1)

  -- where no number stands twice, each finds its own
  found_once : (xs : List A) → AllByRecursion (λ x. times (at x) (map at xs) ≤ 1) xs → AllByRecursion (λ x. find (λ y. at y == at x) xs ≡ Some x) xs
  found_once [] a = tt
  found_once (x ∷ xs) a = (
    ap (λ c. cond c (Some x) (find (λ y. at y == at x) xs)) (eq-eqb (at x) (at x) refl),
    all_from_both (λ y. (at x == at y) ≡ false) (λ y. find (λ z. at z == at y) xs ≡ Some y) (λ y. find (λ z. at z == at y) (x ∷ xs) ≡ Some y)
        (λ y o f. ap (λ c. cond c (Some x) (find (λ z. at z == at y) xs)) o ∙ f) xs (others xs a.1 (there xs)) (found_once xs (fewer xs a.1)),
  )
    where
      under : (c : Bool) (k : ℕ) → cond c (suc k) k ≤ 1 → k ≤ 1
      under true k l = omega arith
      under false k l = l

      fewer : (ys : List A) → AllByRecursion (λ y. cond (eqb (at y) (at x)) (suc (times (at y) (map at xs))) (times (at y) (map at xs)) ≤ 1)
          ys → AllByRecursion (λ y. times (at y) (map at xs) ≤ 1) ys
      fewer [] b = tt
      fewer (y ∷ ys) b = (under (eqb (at y) (at x)) (times (at y) (map at xs)) b.0, fewer ys b.1)

      apart : (c : Bool) (k : ℕ) → cond c (suc k) k ≤ 1 → 1 ≤ k → c ≡ false
      apart true k l m = absurd (omega arith)
      apart false k l m = refl

      others : (ys : List A) → AllByRecursion (λ y. cond (eqb (at y) (at x)) (suc (times (at y) (map at xs)))
          (times (at y) (map at xs)) ≤ 1) ys → AllByRecursion (λ y. 1 ≤ times (at y) (map at xs)) ys → AllByRecursion
          (λ y. (at x == at y) ≡ false) ys
      others [] b c = tt
      others (y ∷ ys) b c = (
        ne_eqb (at x) (at y) (λ e. eqb-false (at y) (at x)
            (apart (eqb (at y) (at x)) (times (at y) (map at xs)) b.0 c.0) (sym e)),
        others ys b.1 c.1,
      )

  -- ---- in order

  first_at : (xs : List A) (y : A) (zs : List A) → xs ≡ y ∷ [] → At (xs ++ zs) 0 y
  first_at xs y zs e = subst (λ ys. At (ys ++ zs) 0 y) (sym e) refl

  next_at : (xs : List A) (y x : A) (zs : List A) (d : ℕ) → xs ≡ y ∷ [] → At zs d x → At (xs ++ zs) (suc d) x
  next_at xs y x zs d e a = subst (λ ys. At (ys ++ zs) (suc d) x) (sym e) a

  at_flat : (xs : List A) (n m k d : ℕ) (x : A) → ((j : ℕ) → m ≤ j → j < m + n → One xs j) → find (λ y. at y == k) xs ≡ Some x → k ≡ m + d
      → d < n → At (flat_map (taken xs) (counting m n)) d x
  at_flat xs zero m k d x each f e l = absurd (omega arith)
  at_flat xs (suc n) m k zero x each f e l =
      let same : k ≡ m = omega arith in first_at (taken xs m) x (flat_map (taken xs) (counting (suc m) n))
      (ap option_to_list (subst (λ j. find (λ y. at y == j) xs ≡ Some x) same f))
  at_flat xs (suc n) m k (suc d) x each f e l =
      let q : One xs m = each m (omega arith) (omega arith) in
      next_at (taken xs m) q.item x (flat_map (taken xs) (counting (suc m) n)) d (ap option_to_list q.is)
      (at_flat xs n (suc m) k d x (λ j a b. each j (omega arith) (omega arith)) f (omega arith) (omega arith))

  many_mapped : (xs : List A) → length (map at xs) ≡ length xs
  many_mapped [] = refl
  many_mapped (x ∷ xs) = ap suc (many_mapped xs)

  -- what is numbered stands at the place of its number
  pub record InPlace (xs : List A) (x : A) : Type 0 where
    pub positive : 1 ≤ at x
    pub place : At (in_order at xs) (pred (at x)) x
    pub found : find (λ y. at y == at x) xs ≡ Some x

  counted_once : (xs : List A) → are_counted (map at xs) ≡ true → (k : ℕ) → 1 ≤ k → k < 1 + length xs → times k (map at xs) ≡ 1
  counted_once xs c k a b =
      let many : length (map at xs) ≡ length xs = many_mapped xs in
      eqb-true (times k (map at xs)) 1 (at_counting (λ j. times j (map at xs) == 1) (length (map at xs)) 1 k c a (omega arith))

  at_its_number : (xs : List A) (x : A) (k : ℕ) → ((j : ℕ) → 1 ≤ j → j < 1 + length xs → One xs j) → 1 ≤ k → k < 1 + length xs → find
      (λ y. at y == k) xs ≡ Some x → At (in_order at xs) (pred k) x
  at_its_number xs x zero each a b f = absurd (omega arith)
  at_its_number xs x (suc k) each a b f = at_flat xs (length xs) 1 (suc k) k x each f (omega arith) (omega arith)

  pub all_in_place : (xs : List A) → are_counted (map at xs) ≡ true → AllByRecursion (InPlace xs) xs
  all_in_place xs c =
      let bounds : AllByRecursion (λ x. (1 ≤ at x) × (at x < 1 + length (map at xs))) xs = mapped_all
      (λ k. (1 ≤ k) × (k < 1 + length (map at xs))) at xs (counted_within (map at xs) c) in
      let many : length (map at xs) ≡ length xs = many_mapped xs in
      let within : AllByRecursion (λ x. (1 ≤ at x) × (at x < 1 + length xs)) xs = subst
      (λ m. AllByRecursion (λ x. (1 ≤ at x) × (at x < 1 + m)) xs) many bounds in
      let each : (j : ℕ) → 1 ≤ j → j < 1 + length xs → One xs j = λ j a b. let t : times j (map at xs) ≡ 1 = counted_once xs c j a b
      in some_found xs j (omega arith) in
      let once : AllByRecursion (λ x. times (at x) (map at xs) ≤ 1) xs = all_from (λ x. (1 ≤ at x) × (at x < 1 + length xs))
      (λ x. times (at x) (map at xs) ≤ 1) (λ x b. few x b.0 b.1) xs within in
      all_from_both (λ x. (1 ≤ at x) × (at x < 1 + length xs)) (λ x. find (λ y. at y == at x) xs ≡ Some x) (InPlace xs)
      (λ x b f. record { positive = b.0; place = at_its_number xs x (at x) each b.0 b.1 f; found = f }) xs within (found_once xs once)
    where
      few : (x : A) → 1 ≤ at x → at x < 1 + length xs → times (at x) (map at xs) ≤ 1
      few x a b = let t : times (at x) (map at xs) ≡ 1 = counted_once xs c (at x) a b in omega arith
