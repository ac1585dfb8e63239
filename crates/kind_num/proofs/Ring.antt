-- Products of whole numbers.
use Rattle.std.specs.Prelude.{ℕ, zero, suc, ◌≡◌, ◌<◌, ◌+◌, ◌*◌, ◌/◌, ◌%◌, ◌-◌}
use Rattle.std.proofs.Common.{sym, ◌∙◌, ap, arith}
use Rattle.std.proofs.lemmas.Int.{ints, by_lt_z}
use Rattle.std.specs.Int.{int_div_euclid, int_rem_euclid}
use lib.IntN.{ℤ, pos, negsuc, ◌+ℤ◌, ◌-ℤ◌, ◌*ℤ◌, neg_ℤ, suc_ℤ-*ℤ, pred_ℤ-*ℤ, suc_ℤ-+ℤ, pred_ℤ-+ℤ, +ℤ_idl, zero-*ℤ, *ℤ_comm, +ℤ_assoc, +ℤ_comm, pos-*ℤ-negsuc, +ℤ_invl}
use lib.Signed.{◌≤ℤ◌, ◌<ℤ◌}

-- (a + b) + k = (a + k) + b
swap_last : (a b k : ℤ) → (a +ℤ b) +ℤ k ≡ (a +ℤ k) +ℤ b
swap_last a b k = +ℤ_assoc a b k ∙ ap (λ z. a +ℤ z) (+ℤ_comm b k) ∙ sym (+ℤ_assoc a k b)

zero_sum : (b k : ℤ) → (pos zero +ℤ b) *ℤ k ≡ pos zero *ℤ k +ℤ b *ℤ k
zero_sum b k = ap (λ z. z *ℤ k) (+ℤ_idl b) ∙ sym (+ℤ_idl (b *ℤ k)) ∙ ap (λ z. z +ℤ b *ℤ k) (sym (zero-*ℤ k))

pub times_sum : (a b k : ℤ) → (a +ℤ b) *ℤ k ≡ a *ℤ k +ℤ b *ℤ k
times_sum (pos zero) b k = zero_sum b k
times_sum (pos (suc n)) b k =
    ap (λ z. z *ℤ k) (suc_ℤ-+ℤ (pos n) b) ∙ suc_ℤ-*ℤ (pos n +ℤ b) k ∙ ap (λ z. z +ℤ k) (times_sum (pos n) b k)
    ∙ swap_last (pos n *ℤ k) (b *ℤ k) k ∙ ap (λ z. z +ℤ b *ℤ k) (sym (suc_ℤ-*ℤ (pos n) k))
times_sum (negsuc zero) b k =
    ap (λ z. z *ℤ k) (pred_ℤ-+ℤ (pos zero) b) ∙ pred_ℤ-*ℤ (pos zero +ℤ b) k ∙ ap (λ z. z -ℤ k) (zero_sum b k)
    ∙ swap_last (pos zero *ℤ k) (b *ℤ k) (neg_ℤ k) ∙ ap (λ z. z +ℤ b *ℤ k) (sym (pred_ℤ-*ℤ (pos zero) k))
times_sum (negsuc (suc n)) b k =
    ap (λ z. z *ℤ k) (pred_ℤ-+ℤ (negsuc n) b) ∙ pred_ℤ-*ℤ (negsuc n +ℤ b) k ∙ ap (λ z. z -ℤ k) (times_sum (negsuc n) b k)
    ∙ swap_last (negsuc n *ℤ k) (b *ℤ k) (neg_ℤ k) ∙ ap (λ z. z +ℤ b *ℤ k) (sym (pred_ℤ-*ℤ (negsuc n) k))

pub sum_times : (k a b : ℤ) → k *ℤ (a +ℤ b) ≡ k *ℤ a +ℤ k *ℤ b
sum_times k a b = *ℤ_comm k (a +ℤ b) ∙ times_sum a b k ∙ ap (λ z. z +ℤ b *ℤ k) (*ℤ_comm a k) ∙ ap (λ z. k *ℤ a +ℤ z) (*ℤ_comm b k)

pub neg_times : (a k : ℤ) → neg_ℤ a *ℤ k ≡ neg_ℤ (a *ℤ k)
neg_times a k =
    let e : neg_ℤ a *ℤ k +ℤ a *ℤ k ≡ pos 0 = sym (times_sum (neg_ℤ a) a k) ∙ ap (λ z. z *ℤ k) (+ℤ_invl a) ∙ zero-*ℤ k in
    omega (arith, ints)

pub times_neg : (a k : ℤ) → a *ℤ neg_ℤ k ≡ neg_ℤ (a *ℤ k)
times_neg a k = *ℤ_comm a (neg_ℤ k) ∙ neg_times k a ∙ ap neg_ℤ (*ℤ_comm k a)

zero_times : (a x : ℤ) → (pos zero *ℤ a) *ℤ x ≡ pos zero *ℤ (a *ℤ x)
zero_times a x = ap (λ z. z *ℤ x) (zero-*ℤ a) ∙ zero-*ℤ x ∙ sym (zero-*ℤ (a *ℤ x))

pub times_times : (m a x : ℤ) → (m *ℤ a) *ℤ x ≡ m *ℤ (a *ℤ x)
times_times (pos zero) a x = zero_times a x
times_times (pos (suc n)) a x = ap (λ z. z *ℤ x) (suc_ℤ-*ℤ (pos n) a) ∙ times_sum (pos n *ℤ a) a x
    ∙ ap (λ z. z +ℤ a *ℤ x) (times_times (pos n) a x) ∙ sym (suc_ℤ-*ℤ (pos n) (a *ℤ x))
times_times (negsuc zero) a x = ap (λ z. z *ℤ x) (pred_ℤ-*ℤ (pos zero) a) ∙ times_sum (pos zero *ℤ a) (neg_ℤ a) x
    ∙ ap (λ z. z +ℤ neg_ℤ a *ℤ x) (zero_times a x) ∙ ap (λ z. pos zero *ℤ (a *ℤ x) +ℤ z) (neg_times a x) ∙ sym (pred_ℤ-*ℤ (pos zero) (a *ℤ x))
times_times (negsuc (suc n)) a x = ap (λ z. z *ℤ x) (pred_ℤ-*ℤ (negsuc n) a) ∙ times_sum (negsuc n *ℤ a) (neg_ℤ a) x
    ∙ ap (λ z. z +ℤ neg_ℤ a *ℤ x) (times_times (negsuc n) a x) ∙ ap (λ z. negsuc n *ℤ (a *ℤ x) +ℤ z) (neg_times a x) ∙ sym (pred_ℤ-*ℤ (negsuc n) (a *ℤ x))

-- an inequality times a number that is 0 or more
pub times_le : (m : ℕ) (a b : ℤ) → a ≤ℤ b → (pos m *ℤ a) ≤ℤ (pos m *ℤ b)
times_le zero a b h = let e : pos 0 *ℤ a ≡ pos 0 = zero-*ℤ a in let f : pos 0 *ℤ b ≡ pos 0 = zero-*ℤ b in omega (arith, ints)
times_le (suc m) a b h =
    let e : pos (suc m) *ℤ a ≡ pos m *ℤ a +ℤ a = suc_ℤ-*ℤ (pos m) a in
    let f : pos (suc m) *ℤ b ≡ pos m *ℤ b +ℤ b = suc_ℤ-*ℤ (pos m) b in
    let g : (pos m *ℤ a) ≤ℤ (pos m *ℤ b) = times_le m a b h in
    omega (arith, ints)

pub mul_next : (a q : ℕ) → a * suc q ≡ a * q + a
mul_next a q = grind arith

-- division by d, without a remainder
pub exact_quotient : (d : ℕ) (a : ℤ) → int_rem_euclid a (pos (suc d)) ≡ pos 0 → pos (suc d) *ℤ int_div_euclid a (pos (suc d)) ≡ a
exact_quotient d (pos n) h =
    let r : n % suc d ≡ 0 = cc in
    let e : suc d * (n / suc d) ≡ n = omega arith in
    ap pos e
exact_quotient d (negsuc n) h =
    let r : suc d - 1 - n % suc d ≡ 0 = cc in
    let m : suc d * suc (n / suc d) ≡ suc d * (n / suc d) + suc d = mul_next (suc d) (n / suc d) in
    let e : suc d * suc (n / suc d) ≡ suc n = omega arith in
    ap (λ z. neg_ℤ (pos z)) e

-- b is below d times one more than its rounded quotient
pub below_next : (d : ℕ) (b : ℤ) → b <ℤ (pos (suc d) *ℤ int_div_euclid b (pos (suc d)) +ℤ pos (suc d))
below_next d (pos n) =
    let m : n < suc d * (n / suc d) + suc d = omega arith in
    omega (arith, ints)
below_next d (negsuc n) =
    let m : suc d * suc (n / suc d) ≡ suc d * (n / suc d) + suc d = mul_next (suc d) (n / suc d) in
    let e : suc d * (n / suc d) < suc n = omega arith in
    let k : pos (suc d) *ℤ negsuc (n / suc d) ≡ neg_ℤ (pos (suc d * suc (n / suc d))) = pos-*ℤ-negsuc (suc d) (n / suc d) in
    omega (arith, ints)

one_times : (d : ℕ) → pos (suc d) *ℤ pos 1 ≡ pos (suc d)
one_times d = ap pos (grind arith)

-- a whole number whose multiple is at most b is at most b's rounded quotient
pub round_down : (d : ℕ) (q b : ℤ) → (pos (suc d) *ℤ q) ≤ℤ b → q ≤ℤ int_div_euclid b (pos (suc d))
round_down d q b h = by_lt_z (int_div_euclid b (pos (suc d))) q
    (λ l. let f : (int_div_euclid b (pos (suc d)) +ℤ pos 1) ≤ℤ q = omega (arith, ints) in
    let g : (pos (suc d) *ℤ (int_div_euclid b (pos (suc d)) +ℤ pos 1)) ≤ℤ (pos (suc d) *ℤ q) = times_le (suc d) (int_div_euclid b (pos (suc d)) +ℤ pos 1) q f in
    let e : pos (suc d) *ℤ (int_div_euclid b (pos (suc d)) +ℤ pos 1) ≡ pos (suc d) *ℤ int_div_euclid b (pos (suc d)) +ℤ pos (suc d)
    = sum_times (pos (suc d)) (int_div_euclid b (pos (suc d))) (pos 1) ∙ ap (λ z. pos (suc d) *ℤ int_div_euclid b (pos (suc d)) +ℤ z) (one_times d) in
    let k : b <ℤ (pos (suc d) *ℤ int_div_euclid b (pos (suc d)) +ℤ pos (suc d)) = below_next d b in
    absurd (omega (arith, ints)))
    (λ l. l)
