-- The weight found part by part is that of the whole; each term has a level.
use Rattle.std.specs.Prelude.{ℕ, ◌≡◌, ◌≤◌, ◌+◌, ◌*◌, max, Bool, true, false, ◌&&◌, cond, Some, None, unsigned_abs, nat_lt, refl}
use Rattle.std.proofs.Common.{ap, sym, ◌∙◌, arith}
use lib.IntN.{ℤ}
use Rattle.std.proofs.lemmas.Bool.Decides.{nat_tests}
use Rattle.sys_terms.specs.View.{Formula, truth, flag, negation, both, same, choice, at_most, equal, Amount, constant, number, plus, minus, multiple, chosen, quotient, remainder}
use Rattle.sys_terms.specs.Fits.{weight, heaviest, heaviest_in, is_light, is_light_weight, levels, levels_of}
use Rattle.sys_terms.specs.Measured.{if_light, is_there, with_weight, with_weights, has_light_parts, light_weight}

below-max : (x y n : ℕ) → nat_lt (max x y) n ≡ nat_lt x n && nat_lt y n
below-max x y n = grind (arith, nat_tests)

light-max : (x y : ℕ) → is_light_weight (max x y) ≡ is_light_weight x && is_light_weight y
unfolding is_light_weight
light-max x y = below-max x y _

zero-light : is_light_weight 0 ≡ true
unfolding is_light_weight
zero-light = refl

one-light : is_light_weight 1 ≡ true
unfolding is_light_weight
one-light = refl

-- a weight where both tests pass
same-there : (p : Bool) (n : ℕ) → is_there (cond p (Some n) None) ≡ p
same-there true n = refl
same-there false n = refl

-- what a weight comes to where its parts are light, and where one is not
and-true : (p : Bool) → p && true ≡ p
and-true true = refl
and-true false = refl

and-false : (p : Bool) → p && false ≡ false
and-false true = refl
and-false false = refl

by-one : (p : Bool) (x : ℕ) (f : ℕ → ℕ)
    → with_weight (cond p (Some x) None) (λ v. if_light (f v)) ≡ cond (is_light_weight (f x) && p) (Some (f x)) None
by-one true x f = rw (and-true (is_light_weight (f x))) refl
by-one false x f = rw (and-false (is_light_weight (f x))) refl

by-two : (p q : Bool) (x y : ℕ) (f : ℕ → ℕ → ℕ)
    → with_weights (cond p (Some x) None) (cond q (Some y) None) (λ v w. if_light (f v w))
    ≡ cond (is_light_weight (f x y) && (p && q)) (Some (f x y)) None
by-two true q x y f = by-one q y (f x)
by-two false q x y f = rw (and-false (is_light_weight (f x y))) refl

by-choice : (c p q : Bool) (x y : ℕ) (f : ℕ → ℕ → ℕ)
    → cond c (with_weights (cond p (Some x) None) (cond q (Some y) None) (λ v w. if_light (f v w))) None
    ≡ cond (is_light_weight (f x y) && (c && (p && q))) (Some (f x y)) None
by-choice true p q x y f = by-two p q x y f
by-choice false p q x y f = rw (and-false (is_light_weight (f x y))) refl

-- the divisor is tested by itself
by-divisor : (p q : Bool) (x y : ℕ)
    → with_weight (cond p (Some x) None) (λ v. cond q (Some y) None) ≡ cond (q && (p && q)) (Some y) None
by-divisor true true x y = refl
by-divisor true false x y = refl
by-divisor false true x y = refl
by-divisor false false x y = refl

pair-light : (a b : Amount) → light_weight a ≡ cond (is_light_weight (heaviest_in a)) (Some (weight a)) None
    → light_weight b ≡ cond (is_light_weight (heaviest_in b)) (Some (weight b)) None
    → is_there (light_weight a) && is_there (light_weight b) ≡ is_light_weight (max (heaviest_in a) (heaviest_in b))
pair-light a b e g =
    rw (
      e,
      g,
      same-there (is_light_weight (heaviest_in a)) (weight a),
      same-there (is_light_weight (heaviest_in b)) (weight b),
      light-max (heaviest_in a) (heaviest_in b),
    ) refl

-- three weights of which the second and the third are the parts'
three-light : (x y z : ℕ) → is_light_weight (max x (max y z))
    ≡ is_light_weight x && (is_light_weight y && is_light_weight z)
three-light x y z = light-max x (max y z) ∙ ap (λ p. is_light_weight x && p) (light-max y z)

four-light : (x y z w : ℕ) → is_light_weight (max x (max y (max z w)))
    ≡ is_light_weight x && (is_light_weight y && (is_light_weight z && is_light_weight w))
four-light x y z w = light-max x (max y (max z w)) ∙ ap (λ p. is_light_weight x && p) (three-light y z w)

of-two : (a b : Amount) → light_weight a ≡ cond (is_light_weight (heaviest_in a)) (Some (weight a)) None
    → light_weight b ≡ cond (is_light_weight (heaviest_in b)) (Some (weight b)) None → (f : ℕ → ℕ → ℕ)
    → with_weights (light_weight a) (light_weight b) (λ x y. if_light (f x y))
    ≡ cond (is_light_weight (max (f (weight a) (weight b)) (max (heaviest_in a) (heaviest_in b))))
    (Some (f (weight a) (weight b))) None
of-two a b e g f =
    rw (e, g, three-light (f (weight a) (weight b)) (heaviest_in a) (heaviest_in b))
    (by-two (is_light_weight (heaviest_in a)) (is_light_weight (heaviest_in b)) (weight a) (weight b) f)

of-choice : (c : Formula) (a b : Amount) → has_light_parts c ≡ is_light c
    → light_weight a ≡ cond (is_light_weight (heaviest_in a)) (Some (weight a)) None
    → light_weight b ≡ cond (is_light_weight (heaviest_in b)) (Some (weight b)) None
    → light_weight (chosen c a b) ≡ cond (is_light_weight (heaviest_in (chosen c a b)))
    (Some (weight (chosen c a b))) None
of-choice c a b h e g =
    rw (h, e, g, four-light (max (max (weight a) (weight b)) 1) (heaviest c) (heaviest_in a) (heaviest_in b))
    (by-choice (is_light c) (is_light_weight (heaviest_in a)) (is_light_weight (heaviest_in b)) (weight a) (weight b)
    (λ x y. max (max x y) 1))

of-divisor : (a : Amount) (d : ℤ) → light_weight a ≡ cond (is_light_weight (heaviest_in a)) (Some (weight a)) None
    → light_weight (quotient a d) ≡ cond (is_light_weight (heaviest_in (quotient a d)))
    (Some (weight (quotient a d))) None
of-divisor a d e =
    rw (e, three-light (max (weight a) 1) (heaviest_in a) (unsigned_abs d))
    (by-two (is_light_weight (heaviest_in a)) (is_light_weight (unsigned_abs d)) (weight a) (unsigned_abs d)
    (λ x y. max x 1))

of-remainder : (a : Amount) (d : ℤ) → light_weight a ≡ cond (is_light_weight (heaviest_in a)) (Some (weight a)) None
    → light_weight (remainder a d)
    ≡ cond (is_light_weight (heaviest_in (remainder a d))) (Some (weight (remainder a d))) None
of-remainder a d e =
    rw (e, three-light (unsigned_abs d) (heaviest_in a) (unsigned_abs d))
    (by-divisor (is_light_weight (heaviest_in a)) (is_light_weight (unsigned_abs d)) (weight a) (unsigned_abs d))

mutual
  light-parts : (f : Formula) → has_light_parts f ≡ is_light f
  light-parts (truth b) = sym zero-light
  light-parts (flag v) = sym zero-light
  light-parts (negation f) = light-parts f
  light-parts (both f g) = rw (light-parts f, light-parts g, light-max (heaviest f) (heaviest g)) refl
  light-parts (same f g) = rw (light-parts f, light-parts g, light-max (heaviest f) (heaviest g)) refl
  light-parts (choice c f g) =
      rw (
        light-parts c,
        light-parts f,
        light-parts g,
        light-max (heaviest c) (max (heaviest f) (heaviest g)),
        light-max (heaviest f) (heaviest g),
      ) refl
  light-parts (at_most a b) = pair-light a b (light-number a) (light-number b)
  light-parts (equal a b) = pair-light a b (light-number a) (light-number b)

  light-number : (a : Amount) → light_weight a ≡ cond (is_light_weight (heaviest_in a)) (Some (weight a)) None
  light-number (constant n) = refl
  light-number (number v) = rw one-light refl
  light-number (plus a b) = of-two a b (light-number a) (light-number b) (λ x y. x + y)
  light-number (minus a b) = of-two a b (light-number a) (light-number b) (λ x y. x + y)
  light-number (multiple n a) =
      ap (λ w. with_weight w (λ x. if_light (unsigned_abs n * x))) (light-number a)
      ∙ by-one (is_light_weight (heaviest_in a)) (weight a) (λ x. unsigned_abs n * x)
      ∙ ap (λ p. cond p (Some (unsigned_abs n * weight a)) None)
      (sym (light-max (unsigned_abs n * weight a) (heaviest_in a)))
  light-number (chosen c a b) = of-choice c a b (light-parts c) (light-number a) (light-number b)
  light-number (quotient a d) = of-divisor a d (light-number a)
  light-number (remainder a d) = of-remainder a d (light-number a)

pub light_parts_are_light : (f : Formula) → has_light_parts f ≡ is_light f
light_parts_are_light f = light-parts f

-- each term has a level
pub one_level : (f : Formula) → 1 ≤ levels f
one_level (truth b) = omega arith
one_level (flag v) = omega arith
one_level (negation f) = omega arith
one_level (both f g) = omega arith
one_level (same f g) = omega arith
one_level (choice c f g) = omega arith
one_level (at_most a b) = omega arith
one_level (equal a b) = omega arith

pub one_level_of : (a : Amount) → 1 ≤ levels_of a
one_level_of (constant n) = omega arith
one_level_of (number v) = omega arith
one_level_of (plus a b) = omega arith
one_level_of (minus a b) = omega arith
one_level_of (multiple n a) = omega arith
one_level_of (chosen c a b) = omega arith
one_level_of (quotient a d) = omega arith
one_level_of (remainder a d) = omega arith
