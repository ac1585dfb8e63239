-- Sums over lists of numbers, and lists that hold the same numbers in whatever order.
use Rattle.std.proofs.Common.{◌≡◌, ℕ, zero, suc, ◌+◌, ◌<◌, ◌≤◌, Bool, true, false, cond, eqb, List, [], ◌∷◌, ◌++◌, length, refl, ap, ◌∙◌, sym, arith}
use Rattle.std.specs.Prelude.{◌==◌}
use Rattle.std.specs.List.{list_all}
use Rattle.std.proofs.Math.Logic.{◌⊎◌, inl, inr}
use Rattle.std.proofs.lemmas.Bool.{eq-eqb, ne_eqb, eqb-true, eqb-false, cases_Bool, cases_order}
use Rattle.lus_tree.specs.Numbers.{counting, times, are_counted}

-- what these numbers weigh together
abbrev pub weigh : (ℕ → ℕ) → List ℕ → ℕ
weigh w [] = 0
weigh w (k ∷ ks) = w k + weigh w ks

pub weigh_both : (w : ℕ → ℕ) (ks js : List ℕ) → weigh w (ks ++ js) ≡ weigh w ks + weigh w js
weigh_both w [] js = omega arith
weigh_both w (k ∷ ks) js = let r : weigh w (ks ++ js) ≡ weigh w ks + weigh w js = weigh_both w ks js in omega arith

pub weigh_counting : (w : ℕ → ℕ) (a j k : ℕ) → weigh w (counting a (j + k)) ≡ weigh w (counting a j) + weigh w (counting (a + j) k)
weigh_counting w a zero k =
    let e : 0 + k ≡ k = omega arith in
    let f : a + 0 ≡ a = omega arith in
    rw (e, f) (omega arith)
weigh_counting w a (suc j) k =
    let e : suc j + k ≡ suc (j + k) = omega arith in
    let f : a + suc j ≡ suc a + j = omega arith in
    let r : weigh w (counting (suc a) (j + k)) ≡ weigh w (counting (suc a) j) + weigh w (counting (suc a + j) k) = weigh_counting w (suc a) j k in
    rw (e, f) (omega arith)

-- ---- the same numbers as 1 to n

length_weighed : (ks : List ℕ) → weigh (λ k. 1) ks ≡ length ks
length_weighed [] = refl
length_weighed (k ∷ ks) = let r : weigh (λ k. 1) ks ≡ length ks = length_weighed ks in omega arith

length_counting : (a n : ℕ) → length (counting a n) ≡ n
length_counting a zero = refl
length_counting a (suc n) = ap suc (length_counting (suc a) n)

times_weighed : (j : ℕ) (ks : List ℕ) → weigh (λ k. cond (eqb j k) 1 0) ks ≡ times j ks
times_weighed j [] = refl
times_weighed j (k ∷ ks) = let r : weigh (λ k. cond (eqb j k) 1 0) ks ≡ times j ks = times_weighed j ks in go (eqb j k) r
  where
    go : (c : Bool) → weigh (λ k. cond (eqb j k) 1 0) ks ≡ times j ks → cond c 1 0 + weigh (λ k. cond (eqb j k) 1 0) ks ≡ cond c (suc (times j ks)) (times j ks)
    go true r = omega arith
    go false r = omega arith

none_before : (a n j : ℕ) → j < a → times j (counting a n) ≡ 0
none_before a zero j l = refl
none_before a (suc n) j l = rw (ne_eqb j a (λ e. omega arith)) (none_before (suc a) n j (omega arith))

once_counted : (a n j : ℕ) → a ≤ j → j < a + n → times j (counting a n) ≡ 1
once_counted a zero j l h = absurd (omega arith)
once_counted a (suc n) j l h = go (cases_Bool (eqb j a)) (once_counted (suc a) n j)
  where
    go : (eqb j a ≡ true) ⊎ (eqb j a ≡ false) → (suc a ≤ j → j < suc a + n → times j (counting (suc a) n) ≡ 1) → cond (eqb j a)
        (suc (times j (counting (suc a) n))) (times j (counting (suc a) n)) ≡ 1
    go (inl t) r = let e : j ≡ a = eqb-true j a t in let z : times j (counting (suc a) n) ≡ 0 = none_before (suc a) n j (omega arith) in rw (t, z) refl
    go (inr f) r = rw f (r (apart (cases_order j a)) (omega arith))
      where
        apart : (j ≡ a) ⊎ ((j < a) ⊎ (a < j)) → suc a ≤ j
        apart (inl e) = absurd (eqb-false j a f e)
        apart (inr (inl g)) = omega arith
        apart (inr (inr g)) = omega arith

all_pass : (p : ℕ → Bool) (a n : ℕ) → ((j : ℕ) → a ≤ j → j < a + n → p j ≡ true) → list_all p (counting a n) ≡ true
all_pass p a zero h = refl
all_pass p a (suc n) h = rw (h a (omega arith) (omega arith)) (all_pass p (suc a) n (λ j l g. h j (omega arith) (omega arith)))

-- numbers that weigh what 1 to n weigh, whatever each number weighs, are those numbers
pub counted_from : (n : ℕ) (ks : List ℕ) → ((w : ℕ → ℕ) → weigh w ks ≡ weigh w (counting 1 n)) → are_counted ks ≡ true
counted_from n ks same = all_pass (λ j. times j ks == 1) 1 (length ks) each
  where
    many : length ks ≡ n
    many = sym (length_weighed ks) ∙ (same (λ k. 1) ∙ (length_weighed (counting 1 n) ∙ length_counting 1 n))

    each : (j : ℕ) → 1 ≤ j → j < 1 + length ks → (times j ks == 1) ≡ true
    each j l h = eq-eqb (times j ks) 1 (sym (times_weighed j ks) ∙
        (same (λ k. cond (eqb j k) 1 0) ∙ (times_weighed j (counting 1 n) ∙ once_counted 1 n j l
        (let e : length ks ≡ n = many in omega arith))))
