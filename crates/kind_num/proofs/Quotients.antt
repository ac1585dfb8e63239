-- Quotients, by what they are.
use Rattle.std.specs.Prelude.{ℕ, zero, suc, ◌≡◌, ◌≢◌, ◌+◌, ◌*◌, ◌/◌, ◌%◌, ◌<◌}
use Rattle.std.proofs.Common.{ap, arith, refl}
use Rattle.std.proofs.lemmas.Int.{ints}
use Rattle.std.specs.Int.{int_div_euclid, int_rem_euclid}
use lib.IntN.{ℤ, pos, negsuc, ◌*ℤ◌, neg_ℤ}
use lib.Signed.{◌<ℤ◌}
use Rattle.kind_num.specs.Division.{IsFloor, IsDivision}
use Rattle.kind_num.proofs.Ring.{mul_next, neg_times, times_neg}

-- of a number from 0 on: k times the divisor and the rest
rest_of : (a b : ℕ) → suc b * (a / suc b) + a % suc b ≡ a
rest_of a b = omega arith

rest_below : (a b : ℕ) → a % suc b < suc b
rest_below a b = omega arith

-- the quotient and the remainder of std are such
pub division_is : (n d : ℤ) → d ≢ pos 0 → IsDivision n d (int_div_euclid n d) (int_rem_euclid n d)
division_is n (pos zero) h = absurd (h refl)
division_is (pos a) (pos (suc b)) h = record {
  whole = let e = rest_of a b in ap pos e;
  low = omega (arith, ints);
  high = let l = rest_below a b in omega (arith, ints);
}
division_is (pos a) (negsuc b) h = record {
  whole = let e = rest_of a b in
      let m : negsuc b *ℤ neg_ℤ (pos (a / suc b)) ≡ neg_ℤ (negsuc b *ℤ pos (a / suc b)) = times_neg (negsuc b) (pos (a / suc b)) in
      let k : negsuc b *ℤ pos (a / suc b) ≡ neg_ℤ (pos (suc b * (a / suc b))) = neg_times (pos (suc b)) (pos (a / suc b)) in
      omega (arith, ints);
  low = omega (arith, ints);
  high = let l = rest_below a b in omega (arith, ints);
}
division_is (negsuc a) (pos (suc b)) h = record {
  whole = let e = rest_of a b in
      let l = rest_below a b in
      let m : suc b * suc (a / suc b) ≡ suc b * (a / suc b) + suc b = mul_next (suc b) (a / suc b) in
      let k : pos (suc b) *ℤ negsuc (a / suc b) ≡ neg_ℤ (pos (suc b * suc (a / suc b))) = times_neg (pos (suc b)) (pos (suc (a / suc b))) in
      omega (arith, ints);
  low = omega (arith, ints);
  high = omega (arith, ints);
}
division_is (negsuc a) (negsuc b) h = record {
  whole = let e = rest_of a b in
      let l = rest_below a b in
      let m : suc b * suc (a / suc b) ≡ suc b * (a / suc b) + suc b = mul_next (suc b) (a / suc b) in
      let k : negsuc b *ℤ pos (suc (a / suc b)) ≡ neg_ℤ (pos (suc b * suc (a / suc b))) = neg_times (pos (suc b)) (pos (suc (a / suc b))) in
      omega (arith, ints);
  low = omega (arith, ints);
  high = omega (arith, ints);
}

floor_from : (n : ℤ) (d : ℕ) (q r : ℤ) → IsDivision n (pos d) q r → IsFloor n (pos d) q
floor_from n d q r h = let w = h.whole in let l = h.low in let g = h.high in record {
  at_most = omega (arith, ints);
  greatest = omega (arith, ints);
}

pub floor_is : (n d : ℤ) → pos 0 <ℤ d → IsFloor n d (int_div_euclid n d)
floor_is n (negsuc d) h = absurd (omega (arith, ints))
floor_is n (pos d) h = floor_from n d _ _ (division_is n (pos d) (λ e. absurd (omega (arith, ints))))
