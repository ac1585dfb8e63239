-- Remainders of opposite numbers.
use Rattle.std.specs.Prelude.{ℕ, zero, suc, ◌≡◌, ◌≢◌}
use Rattle.std.specs.Int.{int_div_euclid, int_rem_euclid}
use Rattle.std.proofs.Common.{sym, ◌∙◌, ap, arith, refl}
use Rattle.std.proofs.lemmas.Int.{ints}
use lib.IntN.{ℤ, pos, negsuc, ◌+ℤ◌, ◌-ℤ◌, ◌*ℤ◌, neg_ℤ, *ℤ-zero}
use lib.Signed.{◌≤ℤ◌, ◌<ℤ◌}
use Rattle.kind_num.proofs.Ring.{times_le, sum_times, times_neg, exact_quotient}
use Rattle.kind_num.proofs.Quotients.{division_is}
use Rattle.int_simplex.proofs.First.{times-one}

pub times_less : (x : ℤ) → x *ℤ negsuc 0 ≡ neg_ℤ x
times_less x = let u : x *ℤ negsuc 0 ≡ neg_ℤ (x *ℤ pos 1) = times_neg x (pos 1) in u ∙ ap neg_ℤ (times-one x)

-- a multiple of d that is nearer to 0 than d is 0
small-multiple : (n : ℕ) (k z : ℤ) → pos (suc n) *ℤ k ≡ z → z <ℤ pos (suc n) → neg_ℤ (pos (suc n)) <ℤ z → z ≡ pos 0
small-multiple n (pos zero) z e h g = sym e ∙ *ℤ-zero (pos (suc n))
small-multiple n (pos (suc k)) z e h g =
    let a : (pos (suc n) *ℤ pos 1) ≤ℤ (pos (suc n) *ℤ pos (suc k)) = times_le (suc n) (pos 1) (pos (suc k)) (omega (arith, ints)) in
    let b = times-one (pos (suc n)) in absurd (omega (arith, ints))
small-multiple n (negsuc k) z e h g =
    let a : (pos (suc n) *ℤ negsuc k) ≤ℤ (pos (suc n) *ℤ negsuc 0) = times_le (suc n) (negsuc k) (negsuc 0) (omega (arith, ints)) in
    let b = times_less (pos (suc n)) in absurd (omega (arith, ints))

same-rest : (n : ℕ) (q p r s z : ℤ) → pos (suc n) *ℤ q +ℤ r ≡ z → pos (suc n) *ℤ p +ℤ s ≡ z → pos 0 ≤ℤ r → r <ℤ pos (suc n)
    → pos 0 ≤ℤ s → s <ℤ pos (suc n) → r ≡ s
same-rest n q p r s z eq ep rl rh sl sh =
    let a : pos (suc n) *ℤ (q +ℤ neg_ℤ p) ≡ pos (suc n) *ℤ q +ℤ pos (suc n) *ℤ neg_ℤ p = sum_times (pos (suc n)) q (neg_ℤ p) in
    let b : pos (suc n) *ℤ neg_ℤ p ≡ neg_ℤ (pos (suc n) *ℤ p) = times_neg (pos (suc n)) p in
    let c = small-multiple n (q +ℤ neg_ℤ p) (s -ℤ r) (omega (arith, ints)) (omega (arith, ints)) (omega (arith, ints)) in
    omega (arith, ints)

pub rest_is : (n : ℕ) (z q r : ℤ) → pos (suc n) *ℤ q +ℤ r ≡ z → pos 0 ≤ℤ r → r <ℤ pos (suc n) → int_rem_euclid z (pos (suc n)) ≡ r
rest_is n z q r e l h =
    let d = division_is z (pos (suc n)) (λ e. absurd (omega (arith, ints))) in
    same-rest n (int_div_euclid z (pos (suc n))) q (int_rem_euclid z (pos (suc n))) r z d.whole e d.low d.high l h

-- a whole number of times
abbrev pub Multiple : ℤ → ℤ → Type 0
Multiple d z = (q : ℤ) × (z ≡ d *ℤ q)

pub multiple_rest : (n : ℕ) (z : ℤ) → Multiple (pos (suc n)) z → int_rem_euclid z (pos (suc n)) ≡ pos 0
multiple_rest n z (q, e) = rest_is n z q (pos 0) (omega (arith, ints)) (omega (arith, ints)) (omega (arith, ints))

pub rest_multiple : (n : ℕ) (z : ℤ) → int_rem_euclid z (pos (suc n)) ≡ pos 0 → Multiple (pos (suc n)) z
rest_multiple n z e = (int_div_euclid z (pos (suc n)), sym (exact_quotient n z e))

pub neg_multiple : (d z : ℤ) → Multiple d z → Multiple d (neg_ℤ z)
neg_multiple d z (q, e) = (neg_ℤ q, ap neg_ℤ e ∙ sym (times_neg d q))

pub sum_multiple : (d y z : ℤ) → Multiple d y → Multiple d z → Multiple d (y +ℤ z)
sum_multiple d y z (q, e) (p, f) = (q +ℤ p, let a = sum_times d q p in omega (arith, ints))

pub opposite_none : (d e : ℤ) → pos 0 <ℤ d → int_rem_euclid e d ≡ pos 0 → int_rem_euclid (neg_ℤ e) d ≡ pos 0
opposite_none (pos zero) e p h = absurd (omega (arith, ints))
opposite_none (negsuc n) e p h = absurd (omega (arith, ints))
opposite_none (pos (suc n)) e p h = multiple_rest n (neg_ℤ e) (neg_multiple (pos (suc n)) e (rest_multiple n e h))

pub opposite_rest : (d e r : ℤ) → pos 0 <ℤ d → int_rem_euclid e d ≡ r → r ≢ pos 0 → int_rem_euclid (neg_ℤ e) d ≡ d -ℤ r
opposite_rest (pos zero) e r p h n = absurd (omega (arith, ints))
opposite_rest (negsuc m) e r p h n = absurd (omega (arith, ints))
opposite_rest (pos (suc m)) e r p h n =
    let d = division_is e (pos (suc m)) (λ e. absurd (omega (arith, ints))) in
    let w = d.whole in
    let l : pos 0 ≤ℤ int_rem_euclid e (pos (suc m)) = d.low in
    let u : int_rem_euclid e (pos (suc m)) <ℤ pos (suc m) = d.high in
    let q = int_div_euclid e (pos (suc m)) in
    let a : pos (suc m) *ℤ (neg_ℤ (int_div_euclid e (pos (suc m))) +ℤ negsuc 0) ≡ pos (suc m) *ℤ neg_ℤ
    (int_div_euclid e (pos (suc m))) +ℤ pos (suc m) *ℤ negsuc 0
    = sum_times (pos (suc m)) (neg_ℤ (int_div_euclid e (pos (suc m)))) (negsuc 0) in
    let b : pos (suc m) *ℤ neg_ℤ (int_div_euclid e (pos (suc m))) ≡ neg_ℤ (pos (suc m) *ℤ int_div_euclid e (pos (suc m))) = times_neg
    (pos (suc m)) (int_div_euclid e (pos (suc m))) in
    let c = times_less (pos (suc m)) in
    let z : pos 0 <ℤ r = above r (omega (arith, ints)) n in
    rest_is m (neg_ℤ e) (neg_ℤ (int_div_euclid e (pos (suc m))) +ℤ negsuc 0) (pos (suc m) -ℤ r) (omega (arith, ints)) (omega (arith, ints))
    (omega (arith, ints)) where
      above : (r : ℤ) → pos 0 ≤ℤ r → r ≢ pos 0 → pos 0 <ℤ r
      above (pos zero) l n = absurd (n refl)
      above (pos (suc k)) l n = omega (arith, ints)
      above (negsuc k) l n = absurd (omega (arith, ints))
