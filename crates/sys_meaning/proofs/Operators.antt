-- What the terms of operators are worth.
use Rattle.std.proofs.Common.{◌≡◌, ℕ, Bool, true, false, cond, not, ◌&&◌, ◌||◌, ℤ, pos, negsuc, refl, ap, ◌∙◌, arith, int_lt, int_le, is_eq, Less, Greater, Equal}
use Rattle.std.specs.Prelude.{◌*ℤ◌, ◌+ℤ◌, ◌-ℤ◌, neg_ℤ, leb, ltb}
use lib.IntN.{one}
use Rattle.std.specs.Ordering.{int_eq}
use Rattle.std.specs.Bool.{beq}
use Rattle.std.proofs.Math.IntN.{*ℤ_comm, *ℤ-negsuc, *ℤ-one}
use Rattle.std.proofs.lemmas.Bool.{false≢true, true≢false}
use Rattle.lus_tree.specs.declared.expression.Operator.{Operator}
use Rattle.lus_tree.specs.declared.expression.Operator.TheVariants.{Implies, Or, Xor, And, Less as Below, AtMost, Equal as Equals, Differs, AtLeast, More, Add, Sub, Mul, Div, Mod}
use Rattle.lus_tree.specs.declared.place.Sort.{Sort}
use Rattle.lus_tree.specs.declared.place.Sort.TheVariants.{Bool as Flags, Int as Numbers}
use Rattle.lus_meaning.specs.Value.{Value, flag, whole, has_sort, not_value, minus_value, equal_values, on_flags, on_numbers, on_order, apply}
use Rattle.lus_meaning.proofs.Typed.{apply_has, has_as}
use Rattle.sys_terms.specs.View.{Formula, Amount, negation, both, same, at_most, plus, minus}
use Rattle.sys_terms.specs.Meaning.{equal_flags, Values, truth_of, value_of}
use Rattle.sys_meaning.specs.Part.{Part, a_flag, a_number, either, implies, not_part, minus_part, choose_part, equal_parts, of_formulas, of_amounts, of_order, operate, scaled, divided, rest_of, worth}
use Rattle.lus_meaning.specs.Run.{Takes}

pub or_bool : (a b : Bool) → not (not a && not b) ≡ (a || b)
or_bool true b = refl
or_bool false true = refl
or_bool false false = refl

pub implies_bool : (a b : Bool) → not (a && not b) ≡ (not a || b)
implies_bool true true = refl
implies_bool true false = refl
implies_bool false b = refl

pub flags_bool : (a b : Bool) → equal_flags a b ≡ beq a b
flags_bool true true = refl
flags_bool true false = refl
flags_bool false true = refl
flags_bool false false = refl

less_nat : (a b : ℕ) → not (leb b a) ≡ ltb a b
less_nat a b = grind (arith)

pub less_bool : (a b : ℤ) → not (int_le b a) ≡ int_lt a b
less_bool (pos a) (pos b) = less_nat a b
less_bool (pos a) (negsuc b) = refl
less_bool (negsuc a) (pos b) = refl
less_bool (negsuc a) (negsuc b) = less_nat b a

pub equal_bool : (a b : ℤ) → (int_le a b && int_le b a) ≡ int_eq a b
equal_bool a b = by (int_lt a b) (int_lt b a) (int_le a b) (int_le b a) (less_bool b a) (less_bool a b)
  where
    by : (p q u v : Bool) → not u ≡ q → not v ≡ p → (u && v) ≡ is_eq (cond p Less (cond q Greater Equal))
    by p true true v e d = absurd (false≢true e)
    by p false false v e d = absurd (true≢false e)
    by true q u true e d = absurd (false≢true d)
    by false q u false e d = absurd (true≢false d)
    by true true false false e d = refl
    by true false true false e d = refl
    by false true false true e d = refl
    by false false true true e d = refl

pub minus_one : (a : ℤ) → negsuc 0 *ℤ a ≡ neg_ℤ a
unfolding one
minus_one a = *ℤ_comm (negsuc 0) a ∙ *ℤ-negsuc a 0 ∙ ap neg_ℤ (*ℤ-one a)

module _ (now next : Values) where
  pub not_worth : (p : Part) → has_sort Flags (worth now next p) ≡ true →
      worth now next (not_part p) ≡ not_value (worth now next p)
  not_worth (a_flag f) h = refl
  not_worth (a_number a) h = absurd (false≢true h)

  pub minus_worth : (p : Part) → has_sort Numbers (worth now next p) ≡ true →
      worth now next (minus_part p) ≡ minus_value (worth now next p)
  minus_worth (a_number a) h = ap whole (minus_one (value_of now next a))
  minus_worth (a_flag f) h = absurd (false≢true h)

  pub choose_worth : (s : Sort) (c : Formula) (p q : Part) → has_sort s (worth now next p) ≡ true →
      has_sort s (worth now next q) ≡ true →
      worth now next (choose_part c p q) ≡ cond (truth_of now next c) (worth now next p) (worth now next q)
  choose_worth s c (a_flag f) (a_flag g) h k = by (truth_of now next c)
    where
      by : (b : Bool) →
          flag (cond b (truth_of now next f) (truth_of now next g)) ≡ cond b (flag (truth_of now next f)) (flag
          (truth_of now next g))
      by true = refl
      by false = refl
  choose_worth s c (a_number a) (a_number b) h k = by (truth_of now next c)
    where
      by : (d : Bool) →
          whole (cond d (value_of now next a) (value_of now next b)) ≡ cond d (whole (value_of now next a)) (whole
          (value_of now next b))
      by true = refl
      by false = refl
  choose_worth Flags c (a_flag f) (a_number b) h k = absurd (false≢true k)
  choose_worth Numbers c (a_flag f) (a_number b) h k = absurd (false≢true h)
  choose_worth Flags c (a_number a) (a_flag g) h k = absurd (false≢true h)
  choose_worth Numbers c (a_number a) (a_flag g) h k = absurd (false≢true k)

  pub equal_worth : (s : Sort) (p q : Part) → has_sort s (worth now next p) ≡ true →
      has_sort s (worth now next q) ≡ true →
      flag (truth_of now next (equal_parts p q)) ≡ equal_values (worth now next p) (worth now next q)
  equal_worth s (a_flag f) (a_flag g) h k = ap flag (flags_bool (truth_of now next f) (truth_of now next g))
  equal_worth s (a_number a) (a_number b) h k = ap flag (equal_bool (value_of now next a) (value_of now next b))
  equal_worth Flags (a_flag f) (a_number b) h k = absurd (false≢true k)
  equal_worth Numbers (a_flag f) (a_number b) h k = absurd (false≢true h)
  equal_worth Flags (a_number a) (a_flag g) h k = absurd (false≢true h)
  equal_worth Numbers (a_number a) (a_flag g) h k = absurd (false≢true k)

  pub flags_worth : (w : Formula → Formula → Formula) (u : Bool → Bool → Bool) (p q : Part) →
      ((f g : Formula) → truth_of now next (w f g) ≡ u (truth_of now next f) (truth_of now next g)) →
      has_sort Flags (worth now next p) ≡ true → has_sort Flags (worth now next q) ≡ true →
      worth now next (of_formulas w p q) ≡ on_flags u (worth now next p) (worth now next q)
  flags_worth w u (a_flag f) (a_flag g) e h k = ap flag (e f g)
  flags_worth w u (a_flag f) (a_number b) e h k = absurd (false≢true k)
  flags_worth w u (a_number a) q e h k = absurd (false≢true h)

  pub amounts_worth : (w : Amount → Amount → Amount) (u : ℤ → ℤ → ℤ) (p q : Part) →
      ((a b : Amount) → value_of now next (w a b) ≡ u (value_of now next a) (value_of now next b)) →
      has_sort Numbers (worth now next p) ≡ true → has_sort Numbers (worth now next q) ≡ true →
      worth now next (of_amounts w p q) ≡ on_numbers u (worth now next p) (worth now next q)
  amounts_worth w u (a_number f) (a_number g) e h k = ap whole (e f g)
  amounts_worth w u (a_number f) (a_flag b) e h k = absurd (false≢true k)
  amounts_worth w u (a_flag a) q e h k = absurd (false≢true h)

  pub order_worth : (w : Amount → Amount → Formula) (u : ℤ → ℤ → Bool) (p q : Part) →
      ((a b : Amount) → truth_of now next (w a b) ≡ u (value_of now next a) (value_of now next b)) →
      has_sort Numbers (worth now next p) ≡ true → has_sort Numbers (worth now next q) ≡ true →
      worth now next (of_order w p q) ≡ on_order u (worth now next p) (worth now next q)
  order_worth w u (a_number f) (a_number g) e h k = ap flag (e f g)
  order_worth w u (a_number f) (a_flag b) e h k = absurd (false≢true k)
  order_worth w u (a_flag a) q e h k = absurd (false≢true h)

  -- an operator that is no product, quotient or remainder
  abbrev pub IsPlain : Operator → Type 0
  IsPlain Mul = ⊥
  IsPlain Div = ⊥
  IsPlain Mod = ⊥
  IsPlain o = Unit {0}

  pub operate_worth : (o : Operator) (s : Sort) (p q : Part) → IsPlain o → Takes o s →
      has_sort s (worth now next p) ≡ true → has_sort s (worth now next q) ≡ true →
      worth now next (operate o p q) ≡ apply o (worth now next p) (worth now next q)
  operate_worth Implies s p q i e h k =
      flags_worth implies (λ a b. not a || b) p q (λ f g. implies_bool (truth_of now next f) (truth_of now next g))
      (has_as s Flags (worth now next p) e h) (has_as s Flags (worth now next q) e k)
  operate_worth Or s p q i e h k =
      flags_worth either (λ a b. a || b) p q (λ f g. or_bool (truth_of now next f) (truth_of now next g))
      (has_as s Flags (worth now next p) e h) (has_as s Flags (worth now next q) e k)
  operate_worth Xor s p q i e h k =
      flags_worth (λ f g. negation (same f g)) (λ a b. not (beq a b)) p q (λ f g. ap not (flags_bool
      (truth_of now next f) (truth_of now next g))) (has_as s Flags
      (worth now next p) e h) (has_as s Flags (worth now next q) e k)
  operate_worth And s p q i e h k =
      flags_worth both (λ a b. a && b) p q (λ f g. refl) (has_as s Flags (worth now next p) e h) (has_as s Flags
      (worth now next q) e k)
  operate_worth Equals s p q i e h k = equal_worth s p q h k
  operate_worth Differs s p q i e h k = ap not_value (equal_worth s p q h k)
  operate_worth Below s p q i e h k =
      order_worth (λ a b. negation (at_most b a)) int_lt p q (λ a b. less_bool (value_of now next a)
      (value_of now next b)) (has_as s Numbers (worth now next p) e h) (has_as s Numbers (worth now next q) e k)
  operate_worth AtMost s p q i e h k =
      order_worth at_most int_le p q (λ a b. refl) (has_as s Numbers (worth now next p) e h) (has_as s Numbers
      (worth now next q) e k)
  operate_worth AtLeast s p q i e h k =
      order_worth (λ a b. at_most b a) (λ a b. int_le b a) p q (λ a b. refl) (has_as s Numbers
      (worth now next p) e h) (has_as s Numbers (worth now next q) e k)
  operate_worth More s p q i e h k =
      order_worth (λ a b. negation (at_most a b)) (λ a b. int_lt b a) p q (λ a b. less_bool (value_of now next b)
      (value_of now next a)) (has_as s Numbers (worth now next p) e h) (has_as s Numbers (worth now next q) e k)
  operate_worth Add s p q i e h k =
      amounts_worth plus (λ a b. a +ℤ b) p q (λ a b. refl) (has_as s Numbers (worth now next p) e h)
      (has_as s Numbers (worth now next q) e k)
  operate_worth Sub s p q i e h k =
      amounts_worth minus (λ a b. a -ℤ b) p q (λ a b. refl) (has_as s Numbers (worth now next p) e h)
      (has_as s Numbers (worth now next q) e k)
  operate_worth Mul s p q i e h k = absurd i
  operate_worth Div s p q i e h k = absurd i
  operate_worth Mod s p q i e h k = absurd i

  -- a product by a constant, on either side; a quotient and a remainder by one
  pub scaled_worth : (n : ℤ) (v : Value) (q : Part) → v ≡ whole n → has_sort Numbers (worth now next q) ≡ true →
      worth now next (scaled n q) ≡ apply Mul v (worth now next q)
  scaled_worth n v (a_number a) e h = rw e refl
  scaled_worth n v (a_flag a) e h = absurd (false≢true h)

  pub scaled_right : (n : ℤ) (v : Value) (p : Part) → v ≡ whole n → has_sort Numbers (worth now next p) ≡ true →
      worth now next (scaled n p) ≡ apply Mul (worth now next p) v
  scaled_right n v (a_number a) e h = rw e (ap whole (*ℤ_comm n (value_of now next a)))
  scaled_right n v (a_flag a) e h = absurd (false≢true h)

  pub divided_worth : (n : ℤ) (v : Value) (p : Part) → v ≡ whole n → has_sort Numbers (worth now next p) ≡ true →
      worth now next (divided p n) ≡ apply Div (worth now next p) v
  divided_worth n v (a_number a) e h = rw e refl
  divided_worth n v (a_flag a) e h = absurd (false≢true h)

  pub rest_worth : (n : ℤ) (v : Value) (p : Part) → v ≡ whole n → has_sort Numbers (worth now next p) ≡ true →
      worth now next (rest_of p n) ≡ apply Mod (worth now next p) v
  rest_worth n v (a_number a) e h = rw e refl
  rest_worth n v (a_flag a) e h = absurd (false≢true h)
