-- What is computed of cut weights, and cut, is the cut of what is computed of whole ones.
use Rattle.std.proofs.Common.{◌≡◌, ℕ, zero, suc, ◌+◌, ◌*◌, ◌≤◌, min, max, Bool, true, false, refl, sym, arith}
use Rattle.std.specs.Prelude.{nat_lt}
use Rattle.std.proofs.lemmas.Bool.{ltb-false}
use Rattle.std.proofs.lemmas.Bool.Decides.{nat_tests}
use Rattle.std.proofs.Math.Nat.{mul-le-mul_left, mul_comm}

pub sum_of_cut : (k a b : ℕ) → min k (min k a + min k b) ≡ min k (a + b)
sum_of_cut k a b = omega arith

pub greater_of_cut : (k a b : ℕ) → 1 ≤ k → min k (max 1 (max (min k a) (min k b))) ≡ min k (max 1 (max a b))
greater_of_cut k a b h = omega arith

pub one_of_cut : (k a : ℕ) → 1 ≤ k → min k (max 1 (min k a)) ≡ min k (max 1 a)
one_of_cut k a h = omega arith

-- a * b is at least k where a is, unless b is 0
pub product_of_cut : (k a b : ℕ) → min k (min k a * min k b) ≡ min k (a * b)
product_of_cut k a b = by_cases (nat_lt a k) refl (nat_lt b k) refl
  where
    large : (c d : ℕ) → k ≤ c → 1 ≤ d → k ≤ c * d
    large c d h g = let m : c * 1 ≤ c * d = mul-le-mul_left c g in omega (arith, m)

    large_second : (c d : ℕ) → 1 ≤ c → k ≤ d → k ≤ c * d
    large_second c d h g = omega (arith, large d c g h, mul_comm c d)

    zero_or_more : (b : ℕ) → k ≤ a → min k (k * min k b) ≡ min k (a * b)
    zero_or_more zero h = let z : min k 0 ≡ 0 = omega arith in rw z (omega arith)
    zero_or_more (suc b) h = zero_limit k refl
      where
        zero_limit : (j : ℕ) → j ≡ k → min k (k * min k (suc b)) ≡ min k (a * suc b)
        zero_limit zero e = omega (arith, e)
        zero_limit (suc j) e =
            let p : k ≤ k * min k (suc b) = large k (min k (suc b)) (omega arith) (omega arith) in
            let q : k ≤ a * suc b = large a (suc b) h (omega arith) in
            omega (arith, p, q)

    second : (c : ℕ) → c ≡ a → k ≤ b → min k (a * k) ≡ min k (a * b)
    second zero e h = rw (sym e) (omega arith)
    second (suc c) e h =
        let p : k ≤ a * k = large_second a k (omega arith) (omega arith) in
        let q : k ≤ a * b = large_second a b (omega arith) h in
        omega (arith, p, q)

    by_cases : (x : Bool) → nat_lt a k ≡ x → (y : Bool) → nat_lt b k ≡ y → min k (min k a * min k b) ≡ min k (a * b)
    by_cases true e true f =
        let p : min k a ≡ a = grind (arith, nat_tests) in
        let q : min k b ≡ b = grind (arith, nat_tests) in
        rw (p, q) refl
    by_cases true e false f =
        let h : k ≤ b = ltb-false b k f in
        let p : min k a ≡ a = grind (arith, nat_tests) in
        let q : min k b ≡ k = omega arith in
        rw (p, q) (second a refl h)
    by_cases false e y f =
        let h : k ≤ a = ltb-false a k e in
        let p : min k a ≡ k = omega arith in
        rw p (zero_or_more b h)
