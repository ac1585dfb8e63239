-- Division by 1.
use Rattle.std.specs.Prelude.{ℕ, ◌≡◌, ◌/◌, ◌%◌, true, false, cond, List, [], ◌∷◌, refl}
use Rattle.std.proofs.Common.{sym, ◌∙◌, ap, subst, arith}
use Rattle.std.specs.Int.{int_div_euclid, int_rem_euclid}
use lib.IntN.{ℤ, pos, negsuc}
use lib.Signed.{le_z}
use Rattle.proof_checker.specs.Theory.{divides}

over_one : (n : ℕ) → n / 1 ≡ n
over_one n = omega arith

rest_one : (n : ℕ) → n % 1 ≡ 0
rest_one n = omega arith

div-one : (a : ℤ) → int_div_euclid a (pos 1) ≡ a
div-one (pos n) = ap pos (over_one n)
div-one (negsuc n) = ap negsuc (over_one n)

rem-one : (a : ℤ) → int_rem_euclid a (pos 1) ≡ pos 0
rem-one (pos n) = ap pos (rest_one n)
rem-one (negsuc n) = ap pos (omega arith)

pub quotient_one : (a d : ℤ) → d ≡ pos 1 → int_div_euclid a d ≡ a
quotient_one a d e = subst (λ x. int_div_euclid a x ≡ a) (sym e) (div-one a)

divides-all : (ts : List (ℕ × ℤ)) → divides (pos 1) ts ≡ true
divides-all [] = refl
divides-all ((x, a) ∷ rest) = ap (λ z. cond (le_z z (pos 0)) (divides (pos 1) rest) false) (rem-one a) ∙ divides-all rest

pub divides_one : (d : ℤ) (ts : List (ℕ × ℤ)) → d ≡ pos 1 → divides d ts ≡ true
divides_one d ts e = subst (λ x. divides x ts ≡ true) (sym e) (divides-all ts)
