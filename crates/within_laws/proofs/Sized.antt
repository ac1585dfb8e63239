-- In a row of small values a light expression is worth no more than its weight times the greatest of them.
use Rattle.std.proofs.Common.{◌≡◌, ℕ, suc, ◌≤◌, ◌+◌, ◌*◌, Bool, true, false, List, [], ◌∷◌, map, refl, sym, ◌∙◌, subst, arith, ℤ, pos, negsuc, Option, Some, None}
use Rattle.std.specs.Prelude.{unsigned_abs, max}
use Rattle.std.specs.Int.{int_div_euclid}
use Rattle.std.specs.Map.{lookup}
use Rattle.std.specs.Str.{bytes_eq}
use Rattle.std.proofs.Math.Logic.{inl, inr}
use Rattle.std.proofs.lemmas.Bool.{false≢true}
use Rattle.std.proofs.lemmas.Int.{ints}
use Rattle.lus_tree.specs.declared.expression.Operator.TheVariants.{Implies, Or, Xor, And, Less, AtMost, Equal, Differs, AtLeast, More, Add, Sub, Mul, Div, Mod}
use Rattle.lus_tree.specs.declared.place.Sort.TheVariants.{Int as Numbers}
use Rattle.lus_tree.specs.Tree.{Name, Expression, truth, number, name, negation, minus, pre, arrow, binary, choice, sampled, merged, call, condact, mode_name}
use Rattle.lus_meaning.specs.Value.{Value, absent, flag, whole, is, minus_value, apply, choose}
use Rattle.lus_meaning.specs.Run.{sort_of}
use Rattle.lus_meaning.specs.Scene.{Clock, sampled_by, Instance, constants_of}
use Rattle.sys_terms.proofs.Narrow.{quotient_le}
use Rattle.sys_meaning.specs.Defaults.{is_constant}
use Rattle.sys_meaning.specs.Slot.{beat, named, held, own, in_call}
use Rattle.sys_meaning.specs.WellTyped.{IsKnown, HasConstant, Stands, clock_here}
use Rattle.term_laws.proofs.Weights.{no_number, value_size, name_size, applied_size, operator_size, times_more, value_here, weighs, DivisorFits}
use Rattle.slot_values.specs.Resolution.{Resolution}
use Rattle.slot_values.specs.Evaluated.{SlotValues, only_where, is_there, worth}
use Rattle.slot_values.specs.Resolved.{Numbering, constant_or_slot, slot_of, output_resolution, latest_resolution, outputs_at, first_resolution, resolution}
use Rattle.term_laws.proofs.Lights.{IsLight}
use Rattle.within_laws.proofs.Constants.{constant_worth}

-- the greatest size of a small number
abbrev pub greatest : ℕ
greatest = 9223372036854775807

-- ---- products

times_one : (n : ℕ) → n ≤ n * greatest
times_one n = let t : n * 1 ≤ n * greatest = times_more n 1 greatest (omega arith) in omega (arith, t)

times_left : (m n k : ℕ) → m ≤ n → m * k ≤ n * k
times_left m n k h =
    let t : k * m ≤ k * n = times_more k m n h in
    let e : k * m ≡ m * k = grind arith in
    let f : k * n ≡ n * k = grind arith in omega (arith, e, f, t)

pub at_most : (m n l : ℕ) → m ≤ n → n ≤ l → m ≤ l
at_most m n l h k = omega arith

sum_times : (a b : ℕ) → a * greatest + b * greatest ≡ (a + b) * greatest
sum_times a b = omega arith

-- ---- values

where_size : (on : Bool) (v : Value) → value_size (only_where on v) ≤ value_size v
where_size true v = omega arith
where_size false v = omega arith

where_within : (on : Bool) (v : Value) (n : ℕ) → value_size v ≤ n → value_size (only_where on v) ≤ n
where_within on v n h = at_most _ _ _ (where_size on v) h

minus_size : (v : Value) → value_size (minus_value v) ≤ value_size v
minus_size absent = omega arith
minus_size (flag b) = omega arith
minus_size (whole n) = omega (arith, ints)

chosen_within : (c v w : Value) (n : ℕ) → value_size v ≤ n → value_size w ≤ n → value_size (choose c v w) ≤ n
chosen_within absent v w n h k = omega arith
chosen_within (flag true) v w n h k = h
chosen_within (flag false) v w n h k = k
chosen_within (whole z) v w n h k = omega arith

-- one of two values, by the greater of two weights, and at least 1
chosen_times : (c v w : Value) (a b : ℕ) → value_size v ≤ a * greatest → value_size w ≤ b * greatest →
    value_size (choose c v w) ≤ max 1 (max a b) * greatest
chosen_times c v w a b h k =
    chosen_within c v w (max 1 (max a b) * greatest)
    (at_most _ _ _ h (times_left a (max 1 (max a b)) greatest (omega arith)))
    (at_most _ _ _ k (times_left b (max 1 (max a b)) greatest (omega arith)))

abs_quotient : (n d : ℤ) → unsigned_abs (int_div_euclid n d) ≤ unsigned_abs n
abs_quotient (pos m) (pos k) = quotient_le m k
abs_quotient (pos m) (negsuc k) = let q = quotient_le m (suc k) in omega (arith, ints, q)
abs_quotient (negsuc m) (pos k) = let q = quotient_le m k in omega (arith, ints, q)
abs_quotient (negsuc m) (negsuc k) = let q = quotient_le m (suc k) in omega (arith, ints, q)

pub quotient_within : (v w : Value) (n : ℕ) → value_size v ≤ n → value_size (apply Div v w) ≤ n
quotient_within (whole x) (whole y) n h = at_most _ _ _ (abs_quotient x y) h
quotient_within (whole x) absent n h = omega arith
quotient_within (whole x) (flag b) n h = omega arith
quotient_within absent w n h = omega arith
quotient_within (flag b) w n h = omega arith

-- nothing comes of a divisor that is not there
no_remainder : (v : Value) (n : ℕ) → value_size (apply Mod v absent) ≤ n
no_remainder absent n = omega arith
no_remainder (flag b) n = omega arith
no_remainder (whole z) n = omega arith

-- ---- expressions

module _ (row : SlotValues) (small : (k : ℕ) → value_size (row k) ≤ greatest) (g : Numbering) where
  abbrev i : Instance
  i = g.place

  abbrev Worth : Bool → Expression → Value
  Worth on e = worth row on (resolution g e)

  abbrev Here : Expression → Value
  Here e = value_here i e

  abbrev Constant : Expression → Type 0
  Constant e = is_constant (constants_of i) e ≡ true

  abbrev Bounded : Bool → Expression → Type 0
  Bounded on e = value_size (Worth on e) ≤ weighs i e * greatest

  one_slot : (on : Bool) (k : ℕ) → value_size (only_where on (row k)) ≤ 1 * greatest
  one_slot on k = let h = where_within on (row k) greatest (small k) in omega (arith, h)

  name_sized : (on : Bool) (x : Name) (o : Option Value) → value_size (worth row on (constant_or_slot o (slot_of g (own (named x))))) ≤ name_size o * greatest
  name_sized on x None = one_slot on (g.number (own (named x)))
  name_sized on x (Some v) = at_most _ _ _ (where_size on v) (times_one (value_size v))

  output_sized : (on : Bool) (k : ℕ) (ys : List Name) → value_size (worth row on (first_resolution (map (output_resolution g k) ys))) ≤ 1 * greatest
  output_sized on k [] = where_within on absent (1 * greatest) (omega arith)
  output_sized on k (y ∷ ys) = one_slot on _

  latest_sized : (on : Bool) (k : ℕ) (a : Resolution) (ys : List Name) →
      value_size (worth row on (first_resolution (map (latest_resolution g k a) ys))) ≤ 1 * greatest
  latest_sized on k a [] = where_within on absent (1 * greatest) (omega arith)
  latest_sized on k a (y ∷ ys) = one_of (g.number (in_call k (own beat))) (g.number (in_call k (own (named y)))) (g.number (own (held k y)))
    where
      one_of : (b o h : ℕ) → value_size (only_where on (choose (row b) (row o) (row h))) ≤ 1 * greatest
      one_of b o h =
          let m = where_within on (choose (row b) (row o) (row h)) greatest (chosen_within (row b) (row o) (row h) greatest (small o) (small h)) in
          omega (arith, m)

  -- a constant is worth its value, or nothing
  constant_within : (on : Bool) (e : Expression) → Constant e → value_size (Worth on e) ≤ value_size (Here e)
  constant_within on e c = subst (λ v. value_size v ≤ value_size (Here e)) (sym (constant_worth row g on e c)) (where_size on (Here e))

  product_by : (c : Bool) (on : Bool) (a b : Expression) → is_constant (constants_of i) a ≡ c → HasConstant i (IsKnown i) Mul a b →
      Bounded on a → Bounded on b →
      value_size (apply Mul (Worth on a) (Worth on b)) ≤ operator_size Mul c (Here a) (weighs i a) (Here b) (weighs i b) * greatest
  product_by true on a b c h k l =
      let s = applied_size Mul true (Worth on a) (Worth on b) (value_size (Worth on a)) (weighs i b * greatest) tt (omega arith) l in
      let t = times_left (value_size (Worth on a)) (value_size (Here a)) (weighs i b * greatest) (constant_within on a c) in
      let e : value_size (Here a) * (weighs i b * greatest) ≡ value_size (Here a) * weighs i b * greatest = grind arith in
      at_most _ _ _ s (at_most _ _ _ t (let q = e in omega (arith, q)))
  product_by false on a b c (inl h) k l = absurd (false≢true (sym c ∙ h))
  product_by false on a b c (inr h) k l =
      let s = applied_size Mul false (Worth on a) (Worth on b) (weighs i a * greatest) (value_size (Worth on b)) tt k (omega arith) in
      let t = times_left (value_size (Worth on b)) (value_size (Here b)) (weighs i a * greatest) (constant_within on b h) in
      let e : value_size (Here b) * (weighs i a * greatest) ≡ value_size (Here b) * weighs i a * greatest = grind arith in
      at_most _ _ _ s (at_most _ _ _ t (let q = e in omega (arith, q)))

  remainder_sized : (on : Bool) (a b : Expression) (c : Bool) (m n : ℕ) → Constant b → DivisorFits Mod (Here b) →
      value_size (apply Mod (Worth on a) (Worth on b)) ≤ operator_size Mod c (Here a) m (Here b) n * greatest
  remainder_sized on a b c m n k d =
      subst (λ v. value_size (apply Mod (Worth on a) v) ≤ value_size (Here b) * greatest) (sym (constant_worth row g on b k)) (go on (Worth on a))
    where
      go : (on : Bool) (v : Value) → value_size (apply Mod v (only_where on (Here b))) ≤ value_size (Here b) * greatest
      go true v =
          at_most _ _ _ (applied_size Mod c v (Here b) (value_size v) (value_size (Here b)) d (omega arith) (omega arith)) (times_one (value_size (Here b)))
      go false v = no_remainder v (value_size (Here b) * greatest)

  pub sized : (at : Clock) (e : Expression) → Stands i (IsKnown i) at e → IsLight i e → sort_of i e ≡ Numbers → (on : Bool) → Bounded on e
  sized at (truth p b) s l z on = absurd (no_number z)
  sized at (number p n) s l z on = at_most _ _ _ (where_size on (whole (pos n))) (times_one n)
  sized at (name p x) s l z on = name_sized on x (lookup (bytes_eq x) (constants_of i))
  sized at (negation p a) s l z on = absurd (no_number z)
  sized at (minus p a) s l z on = at_most _ _ _ (minus_size (Worth on a)) (sized at a s.1 l.1 s.0 on)
  sized at (pre p k a) s l z on = one_slot on _
  sized at (arrow p k a b) s l z on =
      chosen_times _ (Worth on a) (Worth on b) (weighs i a) (weighs i b) (sized at a s.2 l.1 z on) (sized at b s.3 l.2 (s.1 ∙ z) on)
  sized at (binary p Add a b) s l z on =
      let h = applied_size Add true (Worth on a) (Worth on b) (weighs i a * greatest) (weighs i b * greatest) tt
      (sized at a s.3 l.1 s.0 on) (sized at b s.4 l.2 (s.1 ∙ s.0) on) in
      let e = sum_times (weighs i a) (weighs i b) in omega (arith, h, e)
  sized at (binary p Sub a b) s l z on =
      let h = applied_size Sub true (Worth on a) (Worth on b) (weighs i a * greatest) (weighs i b * greatest) tt
      (sized at a s.3 l.1 s.0 on) (sized at b s.4 l.2 (s.1 ∙ s.0) on) in
      let e = sum_times (weighs i a) (weighs i b) in omega (arith, h, e)
  sized at (binary p Mul a b) s l z on =
      product_by (is_constant (constants_of i) a) on a b refl s.2 (sized at a s.3 l.1 s.0 on) (sized at b s.4 l.2 (s.1 ∙ s.0) on)
  sized at (binary p Div a b) s l z on =
      at_most _ _ _ (quotient_within (Worth on a) (Worth on b) (weighs i a * greatest) (sized at a s.3 l.1 s.0 on))
      (times_left (weighs i a) (max 1 (weighs i a)) greatest (omega arith))
  sized at (binary p Mod a b) s l z on = remainder_sized on a b (is_constant (constants_of i) a) (weighs i a) (weighs i b) s.2 l.0.1
  sized at (binary p Implies a b) s l z on = absurd (no_number z)
  sized at (binary p Or a b) s l z on = absurd (no_number z)
  sized at (binary p Xor a b) s l z on = absurd (no_number z)
  sized at (binary p And a b) s l z on = absurd (no_number z)
  sized at (binary p Less a b) s l z on = absurd (no_number z)
  sized at (binary p AtMost a b) s l z on = absurd (no_number z)
  sized at (binary p Equal a b) s l z on = absurd (no_number z)
  sized at (binary p Differs a b) s l z on = absurd (no_number z)
  sized at (binary p AtLeast a b) s l z on = absurd (no_number z)
  sized at (binary p More a b) s l z on = absurd (no_number z)
  sized at (choice p a b d) s l z on =
      chosen_times _ (Worth on b) (Worth on d) (weighs i b) (weighs i d) (sized at b s.3 l.2 z on) (sized at d s.4 l.3 (s.1 ∙ z) on)
  sized at (sampled p a q x) s l z on =
      at_most _ _ _ (where_size _ (Worth (is_there (row (g.number (own (named x.text))))) a))
      (sized (clock_here i (IsKnown i) x.text) a s.2 l.1 z (is_there (row (g.number (own (named x.text))))))
  sized at (merged p x a b) s l z on =
      let k : ℕ = g.number (own (named x.text)) in
      chosen_times (row k) (Worth (is true (row k)) a) (Worth (is false (row k)) b) (weighs i a) (weighs i b)
      (sized (sampled_by true x.text) a s.3 l.1 z (is true (row k))) (sized (sampled_by false x.text) b s.4 l.2 (s.2 ∙ z) (is false (row k)))
  sized at (call p k f as_) s l z on = output_sized on k (outputs_at g k)
  sized at (condact p k a f as_ ds) s l z on = latest_sized on k (resolution g a) (outputs_at g k)
  sized at (mode_name p d m) s l z on = absurd (no_number z)
