-- The numbers of a split's step are within 128 bits.
use Rattle.std.specs.Prelude.{ℕ, zero, suc, ◌≡◌, ◌==◌, Bool, true, false, cond, List, take, refl}
use Rattle.std.specs.Int.{int_div_euclid}
use Rattle.std.proofs.Common.{sym, subst, arith}
use Rattle.std.proofs.lemmas.Int.{ints}
use Rattle.std.proofs.lemmas.List.Elements.{All-from_recursion}
use lib.IntN.{ℤ, pos, negsuc, ◌+ℤ◌, ◌-ℤ◌, ◌*ℤ◌}
use Rattle.kind_num.specs.Exact.{within}
use Rattle.proof_steps.specs.Bounds.{split_atom}
use Rattle.proof_checker.proofs.Quotients.{quotient_one}
use Rattle.line_laws.specs.Lines.{Part, meant, said, coefficient_in, right_side}
use Rattle.line_laws.specs.Steps.{both_of, HasProducts, OperationsFit}
use Rattle.line_laws.proofs.OwnLines.{one-times}

module _ (n x : ℕ) (z : ℤ) (h : within z ≡ true) (o : within (negsuc 0 -ℤ z) ≡ true) where
  abbrev parts : List Part
  parts = both_of n (split_atom (x, z)) record { column = x; upper = true; limit = z }

  one : (b : Bool) → within (pos 1 *ℤ cond b (pos 1 +ℤ pos 0) (pos 0)) ≡ true
  unfolding within
  one true = refl
  one false = refl

  less-one : (b : Bool) → within (pos 1 *ℤ cond b (negsuc 0 +ℤ pos 0) (pos 0)) ≡ true
  unfolding within
  less-one true = refl
  less-one false = refl

  nought : within (pos 0) ≡ true
  unfolding within
  nought = refl

  minus-one : within (negsuc 0) ≡ true
  unfolding within
  minus-one = refl

  one-only : (b : Bool) → within (pos 1 *ℤ cond b (negsuc 0 +ℤ pos 0) (pos 0) +ℤ pos 0) ≡ true
  unfolding within
  one-only true = refl
  one-only false = refl

  both : (b : Bool) → within (pos 1 *ℤ cond b (negsuc 0 +ℤ pos 0) (pos 0) +ℤ
      (pos 1 *ℤ cond b (pos 1 +ℤ pos 0) (pos 0) +ℤ pos 0)) ≡ true
  unfolding within
  both true = refl
  both false = refl

  low : int_div_euclid (negsuc 0 -ℤ z) (pos 1) ≡ negsuc 0 -ℤ z
  low = quotient_one (negsuc 0 -ℤ z) (pos 1) refl

  high : int_div_euclid z (pos 1) ≡ z
  high = quotient_one z (pos 1) refl

  once : (w : ℤ) → within w ≡ true → within (pos 1 *ℤ w) ≡ true
  once w e = subst (λ y. within y ≡ true) (sym (one-times w)) e

  sums-fit : (k c : ℕ) → within (coefficient_in (take k parts) c) ≡ true
  sums-fit zero c = nought
  sums-fit (suc zero) c = one-only (x == c)
  sums-fit (suc (suc zero)) c = both (x == c)
  sums-fit (suc (suc (suc k))) c = both (x == c)

  total : (w y : ℤ) → w ≡ negsuc 0 -ℤ z → y ≡ z → pos 1 *ℤ w +ℤ (pos 1 *ℤ y +ℤ pos 0) ≡ negsuc 0
  total w y e f = let a = one-times w in let b = one-times y in omega (arith, ints)

  first : (w : ℤ) → w ≡ negsuc 0 -ℤ z → pos 1 *ℤ w +ℤ pos 0 ≡ negsuc 0 -ℤ z
  first w e = let a = one-times w in omega (arith, ints)

  all : within (right_side parts) ≡ true
  all = subst (λ y. within y ≡ true) (sym (total (int_div_euclid (negsuc 0 -ℤ z) (pos 1))
      (int_div_euclid z (pos 1)) low high)) minus-one

  rights-fit : (k : ℕ) → within (right_side (take k parts)) ≡ true
  rights-fit zero = nought
  rights-fit (suc zero) = subst (λ y. within y ≡ true) (sym (first (int_div_euclid (negsuc 0 -ℤ z) (pos 1)) low)) o
  rights-fit (suc (suc zero)) = all
  rights-fit (suc (suc (suc k))) = all

  pub split_fits : OperationsFit parts
  split_fits = record {
    meanings = All-from_recursion (λ (p : Part). HasProducts (pos 1) (meant p.sign p.atom)) parts (
      record { coefficients = λ c. less-one (x == c); bound = once (negsuc 0 -ℤ z) o },
      (record { coefficients = λ c. one (x == c); bound = once z h }, tt),
    );
    products = All-from_recursion (λ (p : Part). HasProducts p.multiplier (said p.sign p.atom)) parts (
      record { coefficients = λ c. less-one (x == c); bound = once _ (subst (λ y. within y ≡ true) (sym low) o) },
      (record { coefficients = λ c. one (x == c); bound = once _ (subst (λ y. within y ≡ true) (sym high) h) }, tt),
    );
    sums = sums-fit;
    right_sides = rights-fit;
  }
