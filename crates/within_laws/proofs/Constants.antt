-- The resolution of a constant expression that is light has no operation outside 128 bits, in any row.
use Rattle.std.proofs.Common.{◌≡◌, ℕ, ◌≤◌, Bool, true, false, cond, ◌&&◌, List, [], ◌++◌, refl, ap, ◌∙◌, arith, ℤ, Option, Some, None}
use Rattle.std.specs.Prelude.{unsigned_abs, neg_ℤ, ◌+ℤ◌, ◌-ℤ◌, ◌*ℤ◌, is_some, max}
use Rattle.std.specs.Int.{int_div_euclid}
use Rattle.std.specs.Map.{lookup}
use Rattle.std.specs.Str.{bytes_eq}
use Rattle.std.proofs.lemmas.Bool.{false≢true}
use Rattle.std.proofs.lemmas.Int.{ints}
use Rattle.lus_tree.specs.declared.place.Pos.{Pos}
use Rattle.lus_tree.specs.declared.expression.Operator.{Operator}
use Rattle.lus_tree.specs.declared.expression.Operator.TheVariants.{Implies, Or, Xor, And, Less, AtMost, Equal, Differs, AtLeast, More, Add, Sub, Mul, Div, Mod}
use Rattle.lus_tree.specs.Tree.{Name, Place, Expression, truth, number, name, negation, minus, pre, arrow, binary, choice, sampled, merged, call, condact, mode_name}
use Rattle.lus_meaning.specs.Value.{Value, absent, flag, whole, not_value, minus_value, apply, choose}
use Rattle.lus_meaning.specs.Frame.{empty_frame, entry}
use Rattle.lus_meaning.specs.Meaning.{constant_or}
use Rattle.lus_meaning.specs.Scene.{Clock, Instance, constants_of}
use Rattle.lus_meaning.specs.Scope.{greatest_weight}
use Rattle.kind_num.specs.Exact.{within}
use Rattle.kind_num.specs.declared.Past.{Past}
use Rattle.kind_num.proofs.Within.{within-fits}
use Rattle.rule_laws.proofs.Truths.{both_true}
use Rattle.sys_meaning.specs.Slot.{named, own}
use Rattle.sys_meaning.specs.Defaults.{is_constant}
use Rattle.sys_meaning.specs.WellTyped.{IsKnown, Stands}
use Rattle.term_laws.proofs.Weights.{value_size, applied_size, value_here, weighs, Light, light_root, constant_size}
use Rattle.lus_evaluation.specs.Past.{past_of_numbers, past_of_values, past_of_minus}
use Rattle.slot_values.specs.declared.resolved.PastAt.{PastAt}
use Rattle.slot_values.specs.Evaluated.{SlotValues, only_where, worth, told, outside}
use Rattle.slot_values.specs.Resolved.{Numbering, constant_or_slot, slot_of, resolution}

-- ---- small numbers

small_within : (z : ℤ) → unsigned_abs z ≤ greatest_weight → within z ≡ true
small_within z h = within-fits z (omega (arith, ints, h))

none_told : (at : Pos) (b : Bool) (x : Past) → b ≡ true → told at (cond b None (Some x)) ≡ []
none_told at true x e = refl
none_told at false x e = absurd (false≢true e)

none_of_two : (xs ys : List PastAt) → xs ≡ [] → ys ≡ [] → xs ++ ys ≡ []
none_of_two xs ys e h = rw (e, h) refl

-- the result is small; of `mod` the quotient
abbrev IsSmall : Operator → Value → Value → Type 0
IsSmall Add v w = value_size (apply Add v w) ≤ greatest_weight
IsSmall Sub v w = value_size (apply Sub v w) ≤ greatest_weight
IsSmall Mul v w = value_size (apply Mul v w) ≤ greatest_weight
IsSmall Div v w = value_size (apply Div v w) ≤ greatest_weight
IsSmall Mod v w = value_size (apply Div v w) ≤ greatest_weight
IsSmall _ v w = Unit {0}

numbers_small : (at : Pos) (o : Operator) (x y : ℤ) → IsSmall o (whole x) (whole y) → told at (past_of_numbers o x y) ≡ []
numbers_small at Add x y h = none_told at (within (x +ℤ y)) _ (small_within (x +ℤ y) h)
numbers_small at Sub x y h = none_told at (within (x -ℤ y)) _ (small_within (x -ℤ y) h)
numbers_small at Mul x y h = none_told at (within (x *ℤ y)) _ (small_within (x *ℤ y) h)
numbers_small at Div x y h = none_told at (within (int_div_euclid x y)) _ (small_within (int_div_euclid x y) h)
numbers_small at Mod x y h = none_told at (within (int_div_euclid x y)) _ (small_within (int_div_euclid x y) h)
numbers_small at Implies x y h = refl
numbers_small at Or x y h = refl
numbers_small at Xor x y h = refl
numbers_small at And x y h = refl
numbers_small at Less x y h = refl
numbers_small at AtMost x y h = refl
numbers_small at Equal x y h = refl
numbers_small at Differs x y h = refl
numbers_small at AtLeast x y h = refl
numbers_small at More x y h = refl

values_small : (at : Pos) (on : Bool) (o : Operator) (v w : Value) → IsSmall o v w → told at (past_of_values o (only_where on v) (only_where on w)) ≡ []
values_small at false o v w h = refl
values_small at true o absent w h = refl
values_small at true o (flag b) w h = refl
values_small at true o (whole x) absent h = refl
values_small at true o (whole x) (flag b) h = refl
values_small at true o (whole x) (whole y) h = numbers_small at o x y h

opposite_size : (x : ℤ) → unsigned_abs x ≤ greatest_weight → unsigned_abs (neg_ℤ x) ≤ greatest_weight
opposite_size x h = omega (arith, ints, h)

minus_small : (at : Pos) (on : Bool) (v : Value) → value_size v ≤ greatest_weight → told at (past_of_minus (only_where on v)) ≡ []
minus_small at false v h = refl
minus_small at true absent h = refl
minus_small at true (flag b) h = refl
minus_small at true (whole x) h = none_told at (within (neg_ℤ x)) _ (small_within (neg_ℤ x) (opposite_size x h))

-- ---- what is evaluated on a clock or off it

not_where : (on : Bool) (v : Value) → not_value (only_where on v) ≡ only_where on (not_value v)
not_where true v = refl
not_where false v = refl

minus_where : (on : Bool) (v : Value) → minus_value (only_where on v) ≡ only_where on (minus_value v)
minus_where true v = refl
minus_where false v = refl

applied_where : (on : Bool) (o : Operator) (v w : Value) → apply o (only_where on v) (only_where on w) ≡ only_where on (apply o v w)
applied_where true o v w = refl
applied_where false Implies v w = refl
applied_where false Or v w = refl
applied_where false Xor v w = refl
applied_where false And v w = refl
applied_where false Less v w = refl
applied_where false AtMost v w = refl
applied_where false Equal v w = refl
applied_where false Differs v w = refl
applied_where false AtLeast v w = refl
applied_where false More v w = refl
applied_where false Add v w = refl
applied_where false Sub v w = refl
applied_where false Mul v w = refl
applied_where false Div v w = refl
applied_where false Mod v w = refl

chosen_where : (on : Bool) (c v w : Value) → choose (only_where on c) (only_where on v) (only_where on w) ≡ only_where on (choose c v w)
chosen_where true c v w = refl
chosen_where false c v w = refl

-- ---- expressions

module _ (row : SlotValues) (g : Numbering) (on : Bool) where
  abbrev i : Instance
  i = g.place

  abbrev Constant : Expression → Type 0
  Constant e = is_constant (constants_of i) e ≡ true

  abbrev Worth : Expression → Value
  Worth e = worth row on (resolution g e)

  abbrev Here : Expression → Value
  Here e = value_here i e

  name_worth : (x : Name) (o : Option Value) → is_some o ≡ true →
      worth row on (constant_or_slot o (slot_of g (own (named x)))) ≡ only_where on (constant_or o (λ t. true) (entry empty_frame x) 0)
  name_worth x None e = absurd (false≢true e)
  name_worth x (Some v) e = refl

  pub constant_worth : (e : Expression) → Constant e → Worth e ≡ only_where on (Here e)
  constant_worth (truth p b) c = refl
  constant_worth (number p n) c = refl
  constant_worth (name p x) c = name_worth x (lookup (bytes_eq x) (constants_of i)) c
  constant_worth (negation p a) c = ap not_value (constant_worth a c) ∙ not_where on (Here a)
  constant_worth (minus p a) c = ap minus_value (constant_worth a c) ∙ minus_where on (Here a)
  constant_worth (binary p o a b) c =
      let q = both_true (is_constant (constants_of i) a) (is_constant (constants_of i) b) c in
      ap (λ v. apply o v (Worth b)) (constant_worth a q.0) ∙ ap (λ v. apply o (only_where on (Here a)) v) (constant_worth b q.1)
      ∙ applied_where on o (Here a) (Here b)
  constant_worth (choice p a b d) c =
      let q = both_true (is_constant (constants_of i) a) (is_constant (constants_of i) b && is_constant (constants_of i) d) c in
      let r = both_true (is_constant (constants_of i) b) (is_constant (constants_of i) d) q.1 in
      ap (λ v. choose v (Worth b) (Worth d)) (constant_worth a q.0) ∙ ap (λ v. choose (only_where on (Here a)) v (Worth d)) (constant_worth b r.0)
      ∙ ap (λ v. choose (only_where on (Here a)) (only_where on (Here b)) v) (constant_worth d r.1) ∙ chosen_where on (Here a) (Here b) (Here d)
  constant_worth (pre p k a) c = absurd (false≢true c)
  constant_worth (arrow p k a b) c = absurd (false≢true c)
  constant_worth (sampled p a b x) c = absurd (false≢true c)
  constant_worth (merged p x a b) c = absurd (false≢true c)
  constant_worth (call p k f as_) c = absurd (false≢true c)
  constant_worth (condact p k a f as_ ds) c = absurd (false≢true c)
  constant_worth (mode_name p d m) c = absurd (false≢true c)

  -- ---- its operations

  abbrev IsLight : Expression → Type 0
  IsLight e = Light i greatest_weight e

  at_most : (m n l : ℕ) → m ≤ n → n ≤ l → m ≤ l
  at_most m n l h k = omega arith

  one_at_most : (m n l : ℕ) → m ≤ max 1 n → n ≤ l → 1 ≤ l → m ≤ l
  one_at_most m n l h k o = omega arith

  result_small : (at : Clock) (p : Place) (o : Operator) (a b : Expression) → Stands i (IsKnown i) at (binary p o a b) → IsLight (binary p o a b) →
      Constant a → Constant b → IsSmall o (Here a) (Here b)
  result_small at p Add a b s l c d =
      at_most _ _ _ (applied_size Add (is_constant (constants_of i) a) (Here a) (Here b) (weighs i a) (weighs i b) l.0.1
      (constant_size i greatest_weight a l.1 c) (constant_size i greatest_weight b l.2 d)) (l.0.0 refl)
  result_small at p Sub a b s l c d =
      at_most _ _ _ (applied_size Sub (is_constant (constants_of i) a) (Here a) (Here b) (weighs i a) (weighs i b) l.0.1
      (constant_size i greatest_weight a l.1 c) (constant_size i greatest_weight b l.2 d)) (l.0.0 refl)
  result_small at p Mul a b s l c d =
      at_most _ _ _ (applied_size Mul (is_constant (constants_of i) a) (Here a) (Here b) (weighs i a) (weighs i b) l.0.1
      (constant_size i greatest_weight a l.1 c) (constant_size i greatest_weight b l.2 d)) (l.0.0 refl)
  result_small at p Div a b s l c d =
      at_most _ _ _ (applied_size Div (is_constant (constants_of i) a) (Here a) (Here b) (weighs i a) (weighs i b) l.0.1
      (constant_size i greatest_weight a l.1 c) (constant_size i greatest_weight b l.2 d)) (l.0.0 refl)
  result_small at p Mod a b s l c d =
      one_at_most _ _ _ (applied_size Div (is_constant (constants_of i) a) (Here a) (Here b) (weighs i a) (weighs i b) l.0.1
      (constant_size i greatest_weight a l.1 c) (constant_size i greatest_weight b l.2 d)) ((light_root i greatest_weight a l.1).0 s.0) (omega arith)
  result_small at p Implies a b s l c d = tt
  result_small at p Or a b s l c d = tt
  result_small at p Xor a b s l c d = tt
  result_small at p And a b s l c d = tt
  result_small at p Less a b s l c d = tt
  result_small at p AtMost a b s l c d = tt
  result_small at p Equal a b s l c d = tt
  result_small at p Differs a b s l c d = tt
  result_small at p AtLeast a b s l c d = tt
  result_small at p More a b s l c d = tt

  abbrev Outside : Expression → List PastAt
  Outside e = outside row on (resolution g e)

  pub constant_quiet : (at : Clock) (e : Expression) → Stands i (IsKnown i) at e → IsLight e → Constant e → Outside e ≡ []
  constant_quiet at (truth p b) s l c = refl
  constant_quiet at (number p n) s l c = refl
  constant_quiet at (name p x) s l c = go (lookup (bytes_eq x) (constants_of i)) c
    where
      go : (o : Option Value) → is_some o ≡ true → outside row on (constant_or_slot o (slot_of g (own (named x)))) ≡ []
      go None e = refl
      go (Some v) e = refl
  constant_quiet at (negation p a) s l c = constant_quiet at a s.1 l.1 c
  constant_quiet at (minus p a) s l c =
      none_of_two (Outside a) (told p.at (past_of_minus (Worth a))) (constant_quiet at a s.1 l.1 c)
      (ap (λ v. told p.at (past_of_minus v)) (constant_worth a c)
      ∙ minus_small p.at on (Here a) (at_most _ _ _ (constant_size i greatest_weight a l.1 c) (l.0.0 refl)))
  constant_quiet at (binary p o a b) s l c =
      let q = both_true (is_constant (constants_of i) a) (is_constant (constants_of i) b) c in
      none_of_two (Outside a ++ Outside b) (told p.at (past_of_values o (Worth a) (Worth b)))
      (none_of_two (Outside a) (Outside b) (constant_quiet at a s.3 l.1 q.0) (constant_quiet at b s.4 l.2 q.1))
      (ap (λ v. told p.at (past_of_values o v (Worth b))) (constant_worth a q.0)
      ∙ ap (λ v. told p.at (past_of_values o (only_where on (Here a)) v)) (constant_worth b q.1)
      ∙ values_small p.at on o (Here a) (Here b) (result_small at p o a b s l q.0 q.1))
  constant_quiet at (choice p a b d) s l c =
      let q = both_true (is_constant (constants_of i) a) (is_constant (constants_of i) b && is_constant (constants_of i) d) c in
      let r = both_true (is_constant (constants_of i) b) (is_constant (constants_of i) d) q.1 in
      none_of_two (Outside a ++ Outside b) (Outside d)
      (none_of_two (Outside a) (Outside b) (constant_quiet at a s.2 l.1 q.0) (constant_quiet at b s.3 l.2 r.0)) (constant_quiet at d s.4 l.3 r.1)
  constant_quiet at (pre p k a) s l c = absurd (false≢true c)
  constant_quiet at (arrow p k a b) s l c = absurd (false≢true c)
  constant_quiet at (sampled p a b x) s l c = absurd (false≢true c)
  constant_quiet at (merged p x a b) s l c = absurd (false≢true c)
  constant_quiet at (call p k f as_) s l c = absurd (false≢true c)
  constant_quiet at (condact p k a f as_ ds) s l c = absurd (false≢true c)
  constant_quiet at (mode_name p d m) s l c = absurd (false≢true c)
