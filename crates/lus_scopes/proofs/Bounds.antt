-- A number is no larger than its weight.
use Rattle.std.proofs.Common.{◌≡◌, ℕ, zero, suc, ◌+◌, ◌*◌, ◌/◌, ◌%◌, ◌<◌, ◌≤◌, min, max, Bool, true, false, cond, ◌&&◌, ◌||◌, not, refl, sym, arith, Option, Some, None, option_map, ℤ, pos, negsuc, ◌+ℤ◌, ◌-ℤ◌, ◌*ℤ◌, neg_ℤ, unsigned_abs}
use Rattle.std.specs.Prelude.{nat_lt, nat_le, int_lt, int_le}
use Rattle.std.specs.Bool.{beq}
use Rattle.std.specs.Int.{int_div_euclid, int_rem_euclid}
use Rattle.std.specs.Ordering.{int_eq}
use Rattle.std.proofs.lemmas.Int.{ints, unsigned_abs-mul}
use Rattle.std.proofs.lemmas.Bool.{false≢true, ltb-false}
use Rattle.std.proofs.lemmas.Bool.Decides.{nat_tests}
use Rattle.std.proofs.Math.Nat.{mul-le-mul_left, mul_comm, div-le_self}
use Rattle.lus_tree.specs.declared.expression.Operator.{Operator}
use Rattle.lus_tree.specs.declared.expression.Operator.TheVariants.{Implies, Or, Xor, And, Less, AtMost, Equal, Differs, AtLeast, More, Add, Sub, Mul, Div, Mod}
use Rattle.lus_meaning.specs.Value.{Value, absent, flag, whole, on_flags, on_order, on_numbers, equal_values, not_value}
use Rattle.lus_meaning.specs.Scope.{Worth, operator_weight, divided_weight, apply_total, is_heavy, both_weights, size_of}
use Rattle.lus_scopes.specs.Cut.{heaviest, cut, is_bounded}

pub neg_size : (a : ℤ) → unsigned_abs (neg_ℤ a) ≡ unsigned_abs a
neg_size (pos zero) = refl
neg_size (pos (suc n)) = refl
neg_size (negsuc n) = refl

pub sum_size : (a b : ℤ) → unsigned_abs (a +ℤ b) ≤ unsigned_abs a + unsigned_abs b
sum_size a b = grind (arith, ints)

pub difference_size : (a b : ℤ) → unsigned_abs (a -ℤ b) ≤ unsigned_abs a + unsigned_abs b
difference_size a b = grind (arith, ints)

pub quotient_size : (a d : ℤ) → unsigned_abs (int_div_euclid a d) ≤ max 1 (unsigned_abs a)
quotient_size (pos a) (pos b) = omega (arith, div-le_self a b)
quotient_size (pos a) (negsuc b) = rw (neg_size (pos (a / suc b))) (omega (arith, div-le_self a (suc b)))
quotient_size (negsuc a) (pos b) = omega (arith, div-le_self a b)
quotient_size (negsuc a) (negsuc b) = omega (arith, div-le_self a (suc b))

rest_at_most : (a b : ℕ) → 0 < b → a % b ≤ b
rest_at_most a b h = omega arith

pub remainder_size : (a d : ℤ) → int_eq d (pos 0) ≡ false → unsigned_abs (int_rem_euclid a d) ≤ unsigned_abs d
remainder_size (pos a) (pos zero) e = absurd (false≢true (sym e))
remainder_size (pos a) (pos (suc b)) e = rest_at_most a (suc b) (omega arith)
remainder_size (pos a) (negsuc b) e = rest_at_most a (suc b) (omega arith)
remainder_size (negsuc a) (pos b) e = omega arith
remainder_size (negsuc a) (negsuc b) e = omega arith

-- ---- a result and its weight

at_most : (s v h : ℕ) → (nat_le s v && nat_lt v h) ≡ true → s ≤ v
at_most s v h e = grind (arith, nat_tests)

fits_cut : (g s m : ℕ) → s ≤ m → nat_lt g (min (suc g) m) ≡ false → (nat_le s (min (suc g) m) && nat_lt (min (suc g) m) (suc g)) ≡ true
fits_cut g s m h e = let k : min (suc g) m ≤ g = ltb-false g (min (suc g) m) e in grind (arith, nat_tests)

-- a number that is at most a weight that isn't too great
fits : (n : ℤ) (m : ℕ) → unsigned_abs n ≤ m → is_heavy (cut (Some m)) ≡ false → is_bounded (whole n) (cut (Some m)) ≡ true
fits n m h e = fits_cut 9223372036854775808 (unsigned_abs n) m h e

flags_bounded : (f : Bool → Bool → Bool) (v w : Value) (m : Option ℕ) → is_bounded (on_flags f v w) m ≡ true
flags_bounded f absent w m = refl
flags_bounded f (whole n) w m = refl
flags_bounded f (flag a) absent m = refl
flags_bounded f (flag a) (flag b) m = refl
flags_bounded f (flag a) (whole n) m = refl

order_bounded : (f : ℤ → ℤ → Bool) (v w : Value) (m : Option ℕ) → is_bounded (on_order f v w) m ≡ true
order_bounded f absent w m = refl
order_bounded f (flag a) w m = refl
order_bounded f (whole n) absent m = refl
order_bounded f (whole n) (flag b) m = refl
order_bounded f (whole n) (whole k) m = refl

equal_bounded : (v w : Value) (m : Option ℕ) → is_bounded (equal_values v w) m ≡ true
equal_bounded absent w m = refl
equal_bounded (flag a) absent m = refl
equal_bounded (flag a) (flag b) m = refl
equal_bounded (flag a) (whole n) m = refl
equal_bounded (whole n) absent m = refl
equal_bounded (whole n) (flag b) m = refl
equal_bounded (whole n) (whole k) m = refl

differ_bounded : (v w : Value) (m : Option ℕ) → is_bounded (not_value (equal_values v w)) m ≡ true
differ_bounded absent w m = refl
differ_bounded (flag a) absent m = refl
differ_bounded (flag a) (flag b) m = refl
differ_bounded (flag a) (whole n) m = refl
differ_bounded (whole n) absent m = refl
differ_bounded (whole n) (flag b) m = refl
differ_bounded (whole n) (whole k) m = refl

numbers_bounded : (f : ℤ → ℤ → ℤ) → ((a b : ℤ) → unsigned_abs (f a b) ≤ unsigned_abs a + unsigned_abs b) → (x y : Value) (v w : Option ℕ)
    → is_bounded x v ≡ true → is_bounded y w ≡ true →
    is_heavy (cut (both_weights (λ v w. v + w) v w)) ≡ false → is_bounded (on_numbers f x y) (cut (both_weights (λ v w. v + w) v w)) ≡ true
numbers_bounded f l absent y v w p q e = refl
numbers_bounded f l (flag a) y v w p q e = refl
numbers_bounded f l (whole a) absent v w p q e = refl
numbers_bounded f l (whole a) (flag b) v w p q e = refl
numbers_bounded f l (whole a) (whole b) None w p q e = absurd (false≢true p)
numbers_bounded f l (whole a) (whole b) (Some v) None p q e = absurd (false≢true q)
numbers_bounded f l (whole a) (whole b) (Some v) (Some w) p q e = fits (f a b) (v + w)
    (omega (arith, l a b, at_most (unsigned_abs a) v heaviest p, at_most (unsigned_abs b) w heaviest q)) e

first_factor : (a b : ℤ) (w : ℕ) → unsigned_abs b ≤ w → unsigned_abs (a *ℤ b) ≤ unsigned_abs a * w
first_factor a b w h = let m : unsigned_abs a * unsigned_abs b ≤ unsigned_abs a * w = mul-le-mul_left (unsigned_abs a) h in omega
    (arith, unsigned_abs-mul a b, m)

second_factor : (a b : ℤ) (v : ℕ) → unsigned_abs a ≤ v → unsigned_abs (a *ℤ b) ≤ unsigned_abs b * v
second_factor a b v h =
    let m : unsigned_abs b * unsigned_abs a ≤ unsigned_abs b * v = mul-le-mul_left (unsigned_abs b) h in
    omega (arith, unsigned_abs-mul a b, mul_comm (unsigned_abs a) (unsigned_abs b), m)

product_bounded : (c : Bool) (x y : Value) (v w : Option ℕ) → is_bounded x v ≡ true → is_bounded y w ≡ true →
    is_heavy (cut (operator_weight Mul c record { value = x; weight = v } record { value = y; weight = w })) ≡ false → is_bounded
    (on_numbers (λ a b. a *ℤ b) x y) (cut (operator_weight Mul c record { value = x; weight = v } record { value = y; weight = w })) ≡
    true
product_bounded c absent y v w p q e = refl
product_bounded c (flag a) y v w p q e = refl
product_bounded c (whole a) absent v w p q e = refl
product_bounded c (whole a) (flag b) v w p q e = refl
product_bounded c (whole a) (whole b) None w p q e = absurd (false≢true p)
product_bounded c (whole a) (whole b) (Some v) None p q e = absurd (false≢true q)
product_bounded true (whole a) (whole b) (Some v) (Some w) p q e = fits (a *ℤ b) (unsigned_abs a * w)
    (first_factor a b w (at_most (unsigned_abs b) w heaviest q)) e
product_bounded false (whole a) (whole b) (Some v) (Some w) p q e = fits (a *ℤ b) (unsigned_abs b * v)
    (second_factor a b v (at_most (unsigned_abs a) v heaviest p)) e

quotient_if : (a b : ℤ) (v : ℕ) (z : Bool) → is_bounded (whole a) (Some v) ≡ true → is_heavy (cut (cond z None (Some (max 1 v)))) ≡ false →
    is_bounded (cond z absent (whole (int_div_euclid a b))) (cut (cond z None (Some (max 1 v)))) ≡ true
quotient_if a b v true p e = refl
quotient_if a b v false p e = fits (int_div_euclid a b) (max 1 v) (omega (arith, quotient_size a b, at_most (unsigned_abs a) v heaviest p)) e

quotient_bounded : (x y : Value) (v : Option ℕ) → is_bounded x v ≡ true → is_heavy (cut (divided_weight y (option_map (max 1) v))) ≡ false →
    is_bounded (apply_total Div x y) (cut (divided_weight y (option_map (max 1) v))) ≡ true
quotient_bounded absent absent v p e = refl
quotient_bounded absent (flag b) v p e = refl
quotient_bounded absent (whole b) v p e = elim (int_eq b (pos 0)) as
    (λ z. is_bounded (cond z absent absent) (cut (cond z None (option_map (max 1) v))) ≡ true) [ true ↦ refl | false ↦ refl ]
quotient_bounded (flag a) absent v p e = refl
quotient_bounded (flag a) (flag b) v p e = refl
quotient_bounded (flag a) (whole b) v p e = elim (int_eq b (pos 0)) as
    (λ z. is_bounded (cond z absent absent) (cut (cond z None (option_map (max 1) v))) ≡ true) [ true ↦ refl | false ↦ refl ]
quotient_bounded (whole a) absent v p e = refl
quotient_bounded (whole a) (flag b) v p e = refl
quotient_bounded (whole a) (whole b) None p e = absurd (false≢true p)
quotient_bounded (whole a) (whole b) (Some v) p e = quotient_if a b v (int_eq b (pos 0)) p e

rest_if : (a b : ℤ) (z : Bool) → int_eq b (pos 0) ≡ z → is_heavy (cut (cond z None (Some (unsigned_abs b)))) ≡ false → is_bounded
    (cond z absent (whole (int_rem_euclid a b))) (cut (cond z None (Some (unsigned_abs b)))) ≡ true
rest_if a b true i e = refl
rest_if a b false i e = fits (int_rem_euclid a b) (unsigned_abs b) (remainder_size a b i) e

remainder_bounded : (x y : Value) → is_heavy (cut (divided_weight y (size_of y))) ≡ false →
    is_bounded (apply_total Mod x y) (cut (divided_weight y (size_of y))) ≡ true
remainder_bounded absent absent e = refl
remainder_bounded absent (flag b) e = refl
remainder_bounded absent (whole b) e = elim (int_eq b (pos 0)) as
    (λ z. is_bounded (cond z absent absent) (cut (cond z None (size_of (whole b)))) ≡ true) [ true ↦ refl | false ↦ refl ]
remainder_bounded (flag a) absent e = refl
remainder_bounded (flag a) (flag b) e = refl
remainder_bounded (flag a) (whole b) e = elim (int_eq b (pos 0)) as
    (λ z. is_bounded (cond z absent absent) (cut (cond z None (size_of (whole b)))) ≡ true) [ true ↦ refl | false ↦ refl ]
remainder_bounded (whole a) absent e = refl
remainder_bounded (whole a) (flag b) e = refl
remainder_bounded (whole a) (whole b) e = rest_if a b (int_eq b (pos 0)) refl e

pub operator_bounded : (o : Operator) (c : Bool) (a b : Worth) → is_bounded a.value a.weight ≡ true → is_bounded b.value b.weight ≡ true
    → is_heavy (cut (operator_weight o c a b)) ≡ false →
    is_bounded (apply_total o a.value b.value) (cut (operator_weight o c a b)) ≡ true
operator_bounded Implies c a b p q e = flags_bounded (λ x y. not x || y) a.value b.value None
operator_bounded Or c a b p q e = flags_bounded (λ x y. x || y) a.value b.value None
operator_bounded Xor c a b p q e = flags_bounded (λ x y. not (beq x y)) a.value b.value None
operator_bounded And c a b p q e = flags_bounded (λ x y. x && y) a.value b.value None
operator_bounded Less c a b p q e = order_bounded int_lt a.value b.value None
operator_bounded AtMost c a b p q e = order_bounded int_le a.value b.value None
operator_bounded Equal c a b p q e = equal_bounded a.value b.value None
operator_bounded Differs c a b p q e = differ_bounded a.value b.value None
operator_bounded AtLeast c a b p q e = order_bounded (λ x y. int_le y x) a.value b.value None
operator_bounded More c a b p q e = order_bounded (λ x y. int_lt y x) a.value b.value None
operator_bounded Add c a b p q e = numbers_bounded (λ x y. x +ℤ y) sum_size a.value b.value a.weight b.weight p q e
operator_bounded Sub c a b p q e = numbers_bounded (λ x y. x -ℤ y) difference_size a.value b.value a.weight b.weight p q e
operator_bounded Mul c a b p q e = product_bounded c a.value b.value a.weight b.weight p q e
operator_bounded Div c a b p q e = quotient_bounded a.value b.value a.weight p e
operator_bounded Mod c a b p q e = remainder_bounded a.value b.value e
