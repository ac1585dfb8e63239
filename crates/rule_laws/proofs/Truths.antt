-- Truth values of two parts, and values that are there.
use Rattle.std.proofs.Common.{◌≡◌, Bool, true, false, not, ◌&&◌, ◌||◌, Option, Some, None, refl, sym, ap}
use Rattle.std.proofs.lemmas.Bool.{false≢true}

pub not_false : (b : Bool) → not b ≡ false → b ≡ true
not_false true e = refl
not_false false e = absurd (false≢true (sym e))

pub first_false : (a b : Bool) → (a || b) ≡ false → a ≡ false
first_false true b e = absurd (false≢true (sym e))
first_false false b e = refl

pub second_false : (a b : Bool) → (a || b) ≡ false → b ≡ false
second_false true b e = absurd (false≢true (sym e))
second_false false b e = e

pub both_true : (a b : Bool) → (a && b) ≡ true → (a ≡ true) × (b ≡ true)
both_true true b e = (refl, e)
both_true false b e = absurd (false≢true e)

abbrev some_or : {A : Type 0} → A → Option A → A
some_or a None = a
some_or a (Some b) = b

pub same_some : {A : Type 0} {a b : A} → Some a ≡ Some b → a ≡ b
same_some {a = a} e = ap (some_or a) e
