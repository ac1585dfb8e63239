-- What the definitions give for the divisor 0 is within 128 bits.
use Rattle.std.proofs.Common.{◌≡◌, ◌/◌, ℕ, true, Ok, Some, refl, ℤ, pos, arith}
use Rattle.std.specs.Int.{int_div_euclid, int_rem_euclid}
use lib.IntN.{negsuc}
use Rattle.lus_tree.specs.declared.place.Pos.{Pos}
use Rattle.lus_tree.specs.declared.expression.Operator.TheVariants.{Div, Mod}
use Rattle.kind_num.specs.Exact.{within}
use Rattle.lus_meaning.specs.Value.{whole}
use Rattle.slot_values.specs.Stepwise.{operated}
use Rattle.slot_values.specs.Quickly.{applied}

none_of : (n : ℕ) → n / 0 ≡ 0
none_of n = grind arith

quotient_within : (a : ℤ) → within (int_div_euclid a (pos 0)) ≡ true
unfolding within
quotient_within (pos n) = rw (none_of n) refl
quotient_within (negsuc n) = rw (none_of n) refl

pub quotient_by_zero : (p : Pos) (a b q : ℤ) → b ≡ pos 0 → q ≡ int_div_euclid a (pos 0) → operated p Div (whole a) (whole b) ≡ Ok (whole q)
quotient_by_zero p a b q e h = rw (e, quotient_within a, h) refl

pub remainder_by_zero : (p : Pos) (a b r : ℤ) → b ≡ pos 0 → r ≡ int_rem_euclid a (pos 0) → operated p Mod (whole a) (whole b) ≡ Ok (whole r)
remainder_by_zero p a b r e h = rw (e, quotient_within a, h) refl

pub quotient_applied : (a b q : ℤ) → b ≡ pos 0 → q ≡ int_div_euclid a (pos 0) → applied Div (Some (whole a)) (Some (whole b)) ≡ Some (whole q)
quotient_applied a b q e h = rw (e, quotient_within a, h) refl

pub remainder_applied : (a b r : ℤ) → b ≡ pos 0 → r ≡ int_rem_euclid a (pos 0) → applied Mod (Some (whole a)) (Some (whole b)) ≡ Some (whole r)
remainder_applied a b r e h = rw (e, quotient_within a, h) refl
