-- What an expression weighs in an instance, and the size of a constant's value, which is no more.
use Rattle.std.proofs.Common.{ap, ◌≡◌, ℕ, zero, suc, ◌≤◌, ◌+◌, ◌*◌, ◌/◌, ◌%◌, Bool, true, false, ◌&&◌, Option, Some, None, refl, sym, subst, arith, ℤ, pos, negsuc}
use Rattle.std.specs.Prelude.{max, unsigned_abs, is_some, ◌+ℤ◌, ◌-ℤ◌, ◌*ℤ◌}
use Rattle.std.specs.Int.{int_div_euclid, int_rem_euclid}
use Rattle.std.specs.Map.{lookup}
use Rattle.std.specs.Str.{bytes_eq}
use Rattle.std.proofs.lemmas.Bool.{false≢true}
use Rattle.std.proofs.lemmas.Int.{ints, unsigned_abs-mul}
use Rattle.lus_tree.specs.declared.expression.Operator.{Operator}
use Rattle.lus_tree.specs.declared.expression.Operator.TheVariants.{Implies, Or, Xor, And, Less, AtMost, Equal, Differs, AtLeast, More, Add, Sub, Mul, Div, Mod}
use Rattle.lus_tree.specs.declared.place.Sort.{Sort}
use Rattle.lus_tree.specs.declared.place.Sort.TheVariants.{Bool as Flags, Int as Numbers}
use Rattle.lus_tree.specs.Tree.{Name, Expression, Expressions, truth, number, name, negation, minus, pre, arrow, binary, choice, sampled, merged, call, condact, mode_name, no_more, more}
use Rattle.lus_meaning.specs.Value.{Value, absent, flag, whole, minus_value, on_flags, on_numbers, on_order, equal_values, not_value, apply, choose}
use Rattle.lus_meaning.specs.Frame.{empty_frame, entry}
use Rattle.lus_meaning.specs.Meaning.{constant_or}
use Rattle.lus_meaning.specs.Scene.{Instance, constants_of}
use Rattle.lus_meaning.specs.Program.{constant_value}
use Rattle.lus_meaning.specs.Run.{sort_of}
use Rattle.sys_terms.specs.Fits.{is_zero}
use Rattle.sys_meaning.specs.Defaults.{is_constant}
use Rattle.sys_meaning.specs.Translate.{number_of_value}
use Rattle.rule_laws.proofs.Truths.{both_true}
use Rattle.sys_terms.proofs.Narrow.{quotient_le}

-- the size of a number, and 0 of another value
abbrev pub value_size : Value → ℕ
value_size absent = 0
value_size (flag b) = 0
value_size (whole n) = unsigned_abs n

abbrev pub name_size : Option Value → ℕ
name_size None = 1
name_size (Some v) = value_size v

-- an operator's operands by their weights and, where they are constant, by their values
abbrev pub operator_size : Operator → Bool → Value → ℕ → Value → ℕ → ℕ
operator_size Add c v a w b = a + b
operator_size Sub c v a w b = a + b
operator_size Mul true v a w b = value_size v * b
operator_size Mul false v a w b = value_size w * a
operator_size Div c v a w b = max 1 a
operator_size Mod c v a w b = value_size w
operator_size _ c v a w b = 0

abbrev is_numbers : Sort → Bool
is_numbers Numbers = true
is_numbers Flags = false

pub no_number : Flags ≡ Numbers → ⊥
no_number e = false≢true (ap is_numbers e)

-- ---- sizes of values

size_minus : (v : Value) → value_size (minus_value v) ≤ value_size v
size_minus absent = omega arith
size_minus (flag b) = omega arith
size_minus (whole n) = omega (arith, ints)

abs_sum : (x y : ℤ) → unsigned_abs (x +ℤ y) ≤ unsigned_abs x + unsigned_abs y
abs_sum x y = omega (arith, ints)

abs_difference : (x y : ℤ) → unsigned_abs (x -ℤ y) ≤ unsigned_abs x + unsigned_abs y
abs_difference x y = omega (arith, ints)

abs_quotient : (n d : ℤ) → unsigned_abs (int_div_euclid n d) ≤ unsigned_abs n
abs_quotient (pos m) (pos k) = quotient_le m k
abs_quotient (pos m) (negsuc k) = let q : m / suc k ≤ m = quotient_le m (suc k) in omega (arith, ints)
abs_quotient (negsuc m) (pos k) = let q : m / k ≤ m = quotient_le m k in omega (arith, ints)
abs_quotient (negsuc m) (negsuc k) = let q : m / suc k ≤ m = quotient_le m (suc k) in omega (arith, ints)

rest_le : (m k : ℕ) → m % suc k ≤ suc k
rest_le m k = omega arith

abs_remainder : (n d : ℤ) → is_zero d ≡ false → unsigned_abs (int_rem_euclid n d) ≤ unsigned_abs d
abs_remainder n (pos zero) h = absurd (false≢true (sym h))
abs_remainder (pos m) (pos (suc k)) h = rest_le m k
abs_remainder (pos m) (negsuc k) h = rest_le m k
abs_remainder (negsuc m) (pos (suc k)) h = omega arith
abs_remainder (negsuc m) (negsuc k) h = omega arith

on_two : (f : ℤ → ℤ → ℤ) (l : ℕ) → (v w : Value) → ((x y : ℤ) → v ≡ whole x → w ≡ whole y → unsigned_abs (f x y) ≤ l) →
    value_size (on_numbers f v w) ≤ l
on_two f l (whole x) (whole y) h = h x y refl refl
on_two f l absent w h = omega arith
on_two f l (flag b) w h = omega arith
on_two f l (whole x) absent h = omega arith
on_two f l (whole x) (flag b) h = omega arith

no_flags : (f : Bool → Bool → Bool) (v w : Value) → value_size (on_flags f v w) ≤ 0
no_flags f (flag a) (flag b) = omega arith
no_flags f absent w = omega arith
no_flags f (whole n) w = omega arith
no_flags f (flag a) absent = omega arith
no_flags f (flag a) (whole n) = omega arith

no_order : (f : ℤ → ℤ → Bool) (v w : Value) → value_size (on_order f v w) ≤ 0
no_order f (whole a) (whole b) = omega arith
no_order f absent w = omega arith
no_order f (flag n) w = omega arith
no_order f (whole a) absent = omega arith
no_order f (whole a) (flag n) = omega arith

no_equal : (v w : Value) → value_size (equal_values v w) ≤ 0
no_equal (flag a) (flag b) = omega arith
no_equal (whole a) (whole b) = omega arith
no_equal absent w = omega arith
no_equal (flag a) absent = omega arith
no_equal (flag a) (whole n) = omega arith
no_equal (whole a) absent = omega arith
no_equal (whole a) (flag n) = omega arith

no_not : (v : Value) → value_size (not_value v) ≤ 0
no_not absent = omega arith
no_not (flag b) = omega arith
no_not (whole n) = omega arith

pub times_more : (k m n : ℕ) → m ≤ n → k * m ≤ k * n
times_more zero m n h = omega arith
times_more (suc k) m n h =
    let i = times_more k m n h in let e : suc k * m ≡ k * m + m = grind arith in let f : suc k * n ≡ k * n + n = grind arith in omega arith

product_left : (x y : ℤ) (b : ℕ) → unsigned_abs y ≤ b → unsigned_abs (x *ℤ y) ≤ unsigned_abs x * b
product_left x y b h =
    let e : unsigned_abs (x *ℤ y) ≡ unsigned_abs x * unsigned_abs y = unsigned_abs-mul x y in
    let t : unsigned_abs x * unsigned_abs y ≤ unsigned_abs x * b = times_more (unsigned_abs x) (unsigned_abs y) b h in omega (arith, e, t)

product_right : (x y : ℤ) (a : ℕ) → unsigned_abs x ≤ a → unsigned_abs (x *ℤ y) ≤ unsigned_abs y * a
product_right x y a h =
    let e : unsigned_abs (x *ℤ y) ≡ unsigned_abs x * unsigned_abs y = unsigned_abs-mul x y in
    let f : unsigned_abs x * unsigned_abs y ≡ unsigned_abs y * unsigned_abs x = grind arith in
    let t : unsigned_abs y * unsigned_abs x ≤ unsigned_abs y * a = times_more (unsigned_abs y) (unsigned_abs x) a h in omega (arith, e, f, t)

-- a divisor that is not 0
abbrev pub DivisorFits : Operator → Value → Type 0
DivisorFits Div w = is_zero (number_of_value w) ≡ false
DivisorFits Mod w = is_zero (number_of_value w) ≡ false
DivisorFits o w = Unit {0}

pub applied_size : (o : Operator) (c : Bool) (v w : Value) (a b : ℕ) → DivisorFits o w → value_size v ≤ a → value_size w ≤ b →
    value_size (apply o v w) ≤ operator_size o c v a w b
applied_size Add c v w a b d h k = on_two _ (a + b) v w (λ x y e g.
    let s = abs_sum x y in let p : unsigned_abs x ≤ a = subst (λ z. value_size z ≤ a) e h in
    let q : unsigned_abs y ≤ b = subst (λ z. value_size z ≤ b) g k in omega (arith, s, p, q))
applied_size Sub c v w a b d h k = on_two _ (a + b) v w (λ x y e g.
    let s = abs_difference x y in let p : unsigned_abs x ≤ a = subst (λ z. value_size z ≤ a) e h in
    let q : unsigned_abs y ≤ b = subst (λ z. value_size z ≤ b) g k in omega (arith, s, p, q))
applied_size Mul true v w a b d h k = on_two _ (value_size v * b) v w (λ x y e g.
    subst (λ z. unsigned_abs (x *ℤ y) ≤ value_size z * b) (sym e) (product_left x y b (subst (λ z. value_size z ≤ b) g k)))
applied_size Mul false v w a b d h k = on_two _ (value_size w * a) v w (λ x y e g.
    subst (λ z. unsigned_abs (x *ℤ y) ≤ value_size z * a) (sym g) (product_right x y a (subst (λ z. value_size z ≤ a) e h)))
applied_size Div c v w a b d h k = on_two _ (max 1 a) v w (λ x y e g.
    let s = abs_quotient x y in let p : unsigned_abs x ≤ a = subst (λ z. value_size z ≤ a) e h in omega (arith, s, p))
applied_size Mod c v w a b d h k = on_two _ (value_size w) v w (λ x y e g.
    subst (λ z. unsigned_abs (int_rem_euclid x y) ≤ value_size z) (sym g)
    (abs_remainder x y (subst (λ z. is_zero (number_of_value z) ≡ false) g d)))
applied_size Implies c v w a b d h k = no_flags _ v w
applied_size Or c v w a b d h k = no_flags _ v w
applied_size Xor c v w a b d h k = no_flags _ v w
applied_size And c v w a b d h k = no_flags _ v w
applied_size Less c v w a b d h k = no_order _ v w
applied_size AtMost c v w a b d h k = no_order _ v w
applied_size AtLeast c v w a b d h k = no_order _ v w
applied_size More c v w a b d h k = no_order _ v w
applied_size Equal c v w a b d h k = no_equal v w
applied_size Differs c v w a b d h k = no_not (equal_values v w)

pub chosen_size : (c v w : Value) (a b : ℕ) → value_size v ≤ a → value_size w ≤ b → value_size (choose c v w) ≤ max 1 (max a b)
chosen_size absent v w a b h k = omega arith
chosen_size (flag true) v w a b h k = omega (arith, h)
chosen_size (flag false) v w a b h k = omega (arith, k)
chosen_size (whole n) v w a b h k = omega arith

-- ---- expressions

module _ (i : Instance) where
  abbrev pub value_here : Expression → Value
  value_here e = constant_value (constants_of i) e

  abbrev pub weighs : Expression → ℕ
  weighs (truth p b) = 0
  weighs (number p n) = n
  weighs (name p x) = name_size (lookup (bytes_eq x) (constants_of i))
  weighs (negation p a) = 0
  weighs (minus p a) = weighs a
  weighs (pre p k a) = 1
  weighs (arrow p k a b) = max 1 (max (weighs a) (weighs b))
  weighs (binary p o a b) =
      operator_size o (is_constant (constants_of i) a) (value_here a) (weighs a) (value_here b) (weighs b)
  weighs (choice p a b d) = max 1 (max (weighs b) (weighs d))
  weighs (sampled p a b x) = weighs a
  weighs (merged p x a b) = max 1 (max (weighs a) (weighs b))
  weighs (call p k f as_) = 1
  weighs (condact p k a f as_ ds) = 1
  weighs (mode_name p d m) = 0

  module _ (limit : ℕ) where
    -- an integer that weighs no more than the limit
    abbrev pub IsWithin : Expression → Type 0
    IsWithin e = sort_of i e ≡ Numbers → weighs e ≤ limit

    -- a divisor is not 0
    abbrev pub IsDivided : Expression → Type 0
    IsDivided (binary p o a b) = DivisorFits o (value_here b)
    IsDivided e = Unit {0}

    abbrev pub LightPart : Expression → Type 0
    LightPart e = IsWithin e × IsDivided e

    -- so each part
    abbrev mutual
      pub Light : Expression → Type 0
      Light (truth p b) = LightPart (truth p b)
      Light (number p n) = LightPart (number p n)
      Light (name p x) = LightPart (name p x)
      Light (negation p a) = LightPart (negation p a) × Light a
      Light (minus p a) = LightPart (minus p a) × Light a
      Light (pre p k a) = LightPart (pre p k a) × Light a
      Light (arrow p k a b) = LightPart (arrow p k a b) × Light a × Light b
      Light (binary p o a b) = LightPart (binary p o a b) × Light a × Light b
      Light (choice p a b d) = LightPart (choice p a b d) × Light a × Light b × Light d
      Light (sampled p a b x) = LightPart (sampled p a b x) × Light a
      Light (merged p x a b) = LightPart (merged p x a b) × Light a × Light b
      Light (call p k f as_) = LightPart (call p k f as_) × LightAmong as_
      Light (condact p k a f as_ ds) = LightPart (condact p k a f as_ ds) × Light a × LightAmong as_ × LightAmong ds
      Light (mode_name p d m) = LightPart (mode_name p d m)

      pub LightAmong : Expressions → Type 0
      LightAmong no_more = Unit {0}
      LightAmong (more a as_) = Light a × LightAmong as_

    pub light_root : (e : Expression) → Light e → LightPart e
    light_root (truth p b) h = h
    light_root (number p n) h = h
    light_root (name p x) h = h
    light_root (negation p a) h = h.0
    light_root (minus p a) h = h.0
    light_root (pre p k a) h = h.0
    light_root (arrow p k a b) h = h.0
    light_root (binary p o a b) h = h.0
    light_root (choice p a b d) h = h.0
    light_root (sampled p a b x) h = h.0
    light_root (merged p x a b) h = h.0
    light_root (call p k f as_) h = h.0
    light_root (condact p k a f as_ ds) h = h.0
    light_root (mode_name p d m) h = h

    name_within : (x : Name) (o : Option Value) → is_some o ≡ true → value_size (constant_or o (λ t. true) (entry empty_frame x) 0) ≤ name_size o
    name_within x None e = absurd (false≢true e)
    name_within x (Some v) e = omega arith

    -- the value of a constant expression is of no greater size than the expression weighs
    pub constant_size : (e : Expression) → Light e → is_constant (constants_of i) e ≡ true → value_size (value_here e) ≤ weighs e
    constant_size (truth p b) h c = omega arith
    constant_size (number p n) h c = omega arith
    constant_size (name p x) h c = name_within x (lookup (bytes_eq x) (constants_of i)) c
    constant_size (negation p a) h c = no_not (value_here a)
    constant_size (minus p a) h c =
        let r : value_size (value_here a) ≤ weighs a = constant_size a h.1 c in
        let s : value_size (minus_value (value_here a)) ≤ value_size (value_here a) = size_minus (value_here a) in omega (arith, r, s)
    constant_size (binary p o a b) h c =
        let q = both_true (is_constant (constants_of i) a) (is_constant (constants_of i) b) c in
        applied_size o (is_constant (constants_of i) a) (value_here a) (value_here b) (weighs a) (weighs b) h.0.1
        (constant_size a h.1 q.0) (constant_size b h.2 q.1)
    constant_size (choice p a b d) h c =
        let q = both_true (is_constant (constants_of i) a) (is_constant (constants_of i) b && is_constant (constants_of i) d) c in
        let r = both_true (is_constant (constants_of i) b) (is_constant (constants_of i) d) q.1 in
        chosen_size (value_here a) (value_here b) (value_here d) (weighs b) (weighs d) (constant_size b h.2 r.0) (constant_size d h.3 r.1)
    constant_size (pre p k a) h c = absurd (false≢true c)
    constant_size (arrow p k a b) h c = absurd (false≢true c)
    constant_size (sampled p a b x) h c = absurd (false≢true c)
    constant_size (merged p x a b) h c = absurd (false≢true c)
    constant_size (call p k f as_) h c = absurd (false≢true c)
    constant_size (condact p k a f as_ ds) h c = absurd (false≢true c)
    constant_size (mode_name p d m) h c = absurd (false≢true c)
