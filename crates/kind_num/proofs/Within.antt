-- The test `within`, for what std says of numbers that fit.
use Rattle.std.specs.Prelude.{ℕ, ◌≡◌, ◌<◌, ◌^◌, Bool, true, false, FitsSigned, nat_lt}
use Rattle.std.proofs.Common.{arith, refl}
use Rattle.std.proofs.lemmas.Int.{ints}
use Rattle.std.proofs.lemmas.Bool.Decides.{nat_tests}
use Rattle.std.specs.Int.{w128, int_div_euclid}
use mir.Val.{of_z}
use lib.IntN.{ℤ, negsuc}
use lib.Signed.{mag}
use Rattle.kind_num.specs.Exact.{within}

below : (m n : ℕ) → m < n → nat_lt m n ≡ true
below m n h = grind (arith, nat_tests)

from-below : (m n : ℕ) → nat_lt m n ≡ true → m < n
from-below m n h = grind (arith, nat_tests)

not-below : (b : Bool) → (b ≡ true → ⊥) → b ≡ false
not-below true h = absurd (h refl)
not-below false h = refl

-- a number that fits is within, and one that is within fits
pub within-fits : (z : ℤ) → FitsSigned w128 z → within z ≡ true
unfolding within
within-fits z f = below (mag z) (2 ^ 127) f.sfits

pub fits-within : (z : ℤ) → within z ≡ true → FitsSigned w128 z
unfolding within
fits-within z h = record { sfits = from-below (mag z) (2 ^ 127) h }

pub within-not : (z : ℤ) → (FitsSigned w128 z → ⊥) → within z ≡ false
within-not z n = not-below (within z) (λ h. n (fits-within z h))

-- the least number, and -1, by their bits
least_is : (n : ℤ) → FitsSigned w128 n → of_z w128 n ≡ 170141183460469231731687303715884105728 → n ≡ negsuc 170141183460469231731687303715884105727
least_is n f h = omega (arith, ints)

minus_one_is : (n : ℤ) → FitsSigned w128 n → of_z w128 n ≡ 340282366920938463463374607431768211455 → n ≡ negsuc 0
minus_one_is n f h = omega (arith, ints)

least_past : within (int_div_euclid (negsuc 170141183460469231731687303715884105727) (negsuc 0)) ≡ false
unfolding within
least_past = refl

pub least_over_minus_one : (n d : ℤ) → FitsSigned w128 n → FitsSigned w128 d → of_z w128 n ≡ 170141183460469231731687303715884105728
    → of_z w128 d ≡ 340282366920938463463374607431768211455 → within (int_div_euclid n d) ≡ false
least_over_minus_one n d f g h k = rw (least_is n f h, minus_one_is d g k) least_past
