-- Sums over lists, and over different numbers.
use Rattle.std.specs.Prelude.{ℕ, zero, suc, ◌≡◌, ◌≢◌, ◌==◌, ◌+◌, ◌*◌, ◌≤◌, cond, List, [], ◌∷◌, ◌++◌, length, map, All, Contains, Some, slice_get, unsigned_abs}
use Rattle.std.proofs.Common.{sym, ◌∙◌, ap, subst, arith, refl, inl, inr}
use Rattle.std.proofs.lemmas.List.Elements.{All-head, All-tail}
use lib.IntN.{ℤ}
use Rattle.proof_steps.specs.Rows.{AllDiffer}
use Rattle.bland_laws.proofs.Listed.{tests-same, tests-other, same-or, in-head, in-tail}

abbrev pub summed : {X : Type 0} → (X → ℕ) → List X → ℕ
summed f [] = 0
summed f (x ∷ xs) = f x + summed f xs

pub summed-map : {X Y : Type 0} (g : Y → ℕ) (f : X → Y) (xs : List X) → summed g (map f xs) ≡ summed (λ x. g (f x)) xs
summed-map g f [] = refl
summed-map g f (x ∷ xs) = ap (λ n. g (f x) + n) (summed-map g f xs)

pub summed-append : {X : Type 0} (f : X → ℕ) (xs ys : List X) → summed f (xs ++ ys) ≡ summed f xs + summed f ys
summed-append f [] ys = omega arith
summed-append f (x ∷ xs) ys = let i : summed f (xs ++ ys) ≡ summed f xs + summed f ys = summed-append f xs ys in omega arith

pub summed-same : {X : Type 0} (f g : X → ℕ) (xs : List X) → All (λ x. f x ≡ g x) xs → summed f xs ≡ summed g xs
summed-same f g [] h = refl
summed-same f g (x ∷ xs) h =
    let e : f x ≡ g x = All-head (λ x. f x ≡ g x) x xs h in
    let i : summed f xs ≡ summed g xs = summed-same f g xs (All-tail (λ x. f x ≡ g x) x xs h) in
    omega arith

one-more : (n m : ℕ) → suc n * m ≡ n * m + m
one-more n m = grind arith

pub summed-at-most : {X : Type 0} (f : X → ℕ) (m : ℕ) (xs : List X) → All (λ x. f x ≤ m) xs → summed f xs ≤ length xs * m
summed-at-most f m [] h = omega arith
summed-at-most f m (x ∷ xs) h =
    let e : f x ≤ m = All-head (λ x. f x ≤ m) x xs h in
    let i : summed f xs ≤ length xs * m = summed-at-most f m xs (All-tail (λ x. f x ≤ m) x xs h) in
    let o : suc (length xs) * m ≡ length xs * m + m = one-more (length xs) m in
    omega arith

-- the sum over all numbers below n
abbrev pub below : (ℕ → ℕ) → ℕ → ℕ
below g zero = 0
below g (suc n) = g 0 + below (λ k. g (suc k)) n

pub below-at-most : (g : ℕ → ℕ) (m n : ℕ) → ((k : ℕ) → g k ≤ m) → below g n ≤ n * m
below-at-most g m zero h = omega arith
below-at-most g m (suc n) h =
    let e : g 0 ≤ m = h 0 in
    let i : below (λ k. g (suc k)) n ≤ n * m = below-at-most (λ k. g (suc k)) m n (λ k. h (suc k)) in
    let o : suc n * m ≡ n * m + m = one-more n m in
    omega arith

below-same : (f g : ℕ → ℕ) (n : ℕ) → ((k : ℕ) → f k ≡ g k) → below f n ≡ below g n
below-same f g zero h = refl
below-same f g (suc n) h =
    let e : f 0 ≡ g 0 = h 0 in
    let i : below (λ k. f (suc k)) n ≡ below (λ k. g (suc k)) n = below-same (λ k. f (suc k)) (λ k. g (suc k)) n (λ k. h (suc k)) in
    omega arith

-- g, but 0 at k
abbrev without : (ℕ → ℕ) → ℕ → ℕ → ℕ
without g k j = cond (j == k) 0 (g j)

without-at : (g : ℕ → ℕ) (k : ℕ) → without g k k ≡ 0
without-at g k = ap (λ b. cond b 0 (g k)) (tests-same k)

without-off : (g : ℕ → ℕ) (k j : ℕ) → j ≢ k → without g k j ≡ g j
without-off g k j n = ap (λ b. cond b 0 (g j)) (tests-other j k n)

without-next : (g : ℕ → ℕ) (k j : ℕ) → without g (suc k) (suc j) ≡ without (λ i. g (suc i)) k j
without-next g k j = elim (same-or j k) [
  | inl e ↦
      ap (λ i. without g (suc i) (suc j)) (sym e) ∙ without-at g (suc j)
      ∙ sym (ap (λ i. without (λ i. g (suc i)) i j) (sym e) ∙ without-at (λ i. g (suc i)) j)
  | inr n ↦ without-off g (suc k) (suc j) (λ e. n (omega arith)) ∙ sym (without-off (λ i. g (suc i)) k j n)
]

-- the number at k apart
apart : (g : ℕ → ℕ) (n k : ℕ) → (n ≤ k → g k ≡ 0) → g k + below (without g k) n ≤ below g n
apart g zero k h = let e : g k ≡ 0 = h (omega arith) in omega arith
apart g (suc n) zero h =
    let a : without g 0 0 ≡ 0 = without-at g 0 in
    let b : below (λ j. without g 0 (suc j)) n ≡ below (λ j. g (suc j)) n =
    below-same (λ j. without g 0 (suc j)) (λ j. g (suc j)) n (λ j. without-off g 0 (suc j) (λ e. absurd (omega arith))) in
    omega arith
apart g (suc n) (suc k) h =
    let a : without g (suc k) 0 ≡ g 0 = without-off g (suc k) 0 (λ e. absurd (omega arith)) in
    let b : below (λ j. without g (suc k) (suc j)) n ≡ below (without (λ i. g (suc i)) k) n =
    below-same (λ j. without g (suc k) (suc j)) (without (λ i. g (suc i)) k) n (without-next g k) in
    let i : g (suc k) + below (without (λ i. g (suc i)) k) n ≤ below (λ i. g (suc i)) n =
    apart (λ i. g (suc i)) n k (λ l. h (omega arith)) in
    omega arith

-- over different numbers, where what is n or more has nothing
pub summed-different : (g : ℕ → ℕ) (n : ℕ) (ks : List ℕ) → AllDiffer ks → ((k : ℕ) → n ≤ k → g k ≡ 0) → summed g ks ≤ below g n
summed-different g n [] d h = omega arith
summed-different g n (k ∷ ks) d h =
    let a : g k + below (without g k) n ≤ below g n = apart g n k (h k) in
    let i : summed (without g k) ks ≤ below (without g k) n =
    summed-different (without g k) n ks d.1 (λ j l. gone j (h j l)) in
    let e : summed (without g k) ks ≡ summed g ks = kept ks d.0 in
    omega arith
  where
    gone : (j : ℕ) → g j ≡ 0 → without g k j ≡ 0
    gone j e = elim (same-or j k) [
      | inl q ↦ ap (without g k) q ∙ without-at g k
      | inr q ↦ without-off g k j q ∙ e
    ]

    kept : (js : List ℕ) → (¬ Contains js k) → summed (without g k) js ≡ summed g js
    kept [] n = refl
    kept (j ∷ js) n =
        let e : without g k j ≡ g j = without-off g k j (λ q. n (subst (λ (i : ℕ). Contains (j ∷ js) i) q (in-head j js))) in
        let i : summed (without g k) js ≡ summed g js = kept js (λ c. n (in-tail j k js c)) in
        omega arith

-- the size of the number at a place, and 0 past the end
abbrev pub size-at : List ℤ → ℕ → ℕ
size-at [] k = 0
size-at (z ∷ zs) zero = unsigned_abs z
size-at (z ∷ zs) (suc k) = size-at zs k

pub is-size : (zs : List ℤ) (k : ℕ) (z : ℤ) → slice_get zs k ≡ Some z → size-at zs k ≡ unsigned_abs z
is-size [] k z e = absurd cc
is-size (y ∷ zs) zero z e = ap unsigned_abs (same y z e) where
  same : (y z : ℤ) → Some y ≡ Some z → y ≡ z
  same y z e = cc
is-size (y ∷ zs) (suc k) z e = is-size zs k z e

pub past-end : (zs : List ℤ) (k : ℕ) → length zs ≤ k → size-at zs k ≡ 0
past-end [] k h = refl
past-end (z ∷ zs) zero h = absurd (omega arith)
past-end (z ∷ zs) (suc k) h = past-end zs k (omega arith)

pub all-sizes : (zs : List ℤ) → below (size-at zs) (length zs) ≡ summed unsigned_abs zs
all-sizes [] = refl
all-sizes (z ∷ zs) = ap (λ n. unsigned_abs z + n) (all-sizes zs)
