-- The weight of a number by its form, given up at the first part that is heavier than 2^63.
use Rattle.std.specs.Prelude.{ℕ, ◌+◌, ◌*◌, max, Bool, true, false, ◌&&◌, cond, Option, Some, None, unsigned_abs}
use Rattle.sys_terms.specs.View.{Formula, truth, flag, negation, both, same, choice, at_most, equal, Amount, constant, number, plus, minus, multiple, chosen, quotient, remainder}
use Rattle.sys_terms.specs.Fits.{is_light_weight}

-- the weight, where it is at most 2^63
abbrev pub if_light : ℕ → Option ℕ
if_light n = cond (is_light_weight n) (Some n) None

abbrev pub is_there : Option ℕ → Bool
is_there None = false
is_there (Some n) = true

-- the next weight, where there is a first one
abbrev pub with_weight : Option ℕ → (ℕ → Option ℕ) → Option ℕ
with_weight None f = None
with_weight (Some n) f = f n

abbrev pub with_weights : Option ℕ → Option ℕ → (ℕ → ℕ → Option ℕ) → Option ℕ
with_weights m n f = with_weight m (λ x. with_weight n (f x))

abbrev mutual
  pub has_light_parts : Formula → Bool
  has_light_parts (truth b) = true
  has_light_parts (flag v) = true
  has_light_parts (negation f) = has_light_parts f
  has_light_parts (both f g) = has_light_parts f && has_light_parts g
  has_light_parts (same f g) = has_light_parts f && has_light_parts g
  has_light_parts (choice c f g) = has_light_parts c && (has_light_parts f && has_light_parts g)
  has_light_parts (at_most a b) = is_there (light_weight a) && is_there (light_weight b)
  has_light_parts (equal a b) = is_there (light_weight a) && is_there (light_weight b)

  pub light_weight : Amount → Option ℕ
  light_weight (constant n) = if_light (unsigned_abs n)
  light_weight (number v) = Some 1
  light_weight (plus a b) = with_weights (light_weight a) (light_weight b) (λ x y. if_light (x + y))
  light_weight (minus a b) = with_weights (light_weight a) (light_weight b) (λ x y. if_light (x + y))
  light_weight (multiple n a) = with_weight (light_weight a) (λ x. if_light (unsigned_abs n * x))
  light_weight (chosen c a b) =
      cond (has_light_parts c)
      (with_weights (light_weight a) (light_weight b) (λ x y. if_light (max (max x y) 1)))
      None
  light_weight (quotient a d) =
      with_weights (light_weight a) (if_light (unsigned_abs d)) (λ x y. if_light (max x 1))
  light_weight (remainder a d) = with_weight (light_weight a) (λ x. if_light (unsigned_abs d))
