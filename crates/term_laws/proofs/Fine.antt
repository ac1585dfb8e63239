-- Terms whose variables are as said, whose divisors are not 0, and whose numbers weigh no more than a limit.
use Rattle.std.proofs.Common.{◌≡◌, ℕ, ◌≤◌, ◌+◌, ◌*◌, Bool, true, false, List, [], ◌∷◌, refl, subst, arith, slice_get, Some, ℤ, negsuc}
use Rattle.std.specs.Prelude.{unsigned_abs}
use Rattle.std.specs.List.{AllByRecursion}
use Rattle.std.proofs.lemmas.Bool.{false≢true}
use Rattle.lus_tree.specs.declared.expression.Operator.{Operator}
use Rattle.lus_tree.specs.declared.expression.Operator.TheVariants.{Implies, Or, Xor, And, Less, AtMost, Equal, Differs, AtLeast, More, Add, Sub, Mul, Div, Mod}
use Rattle.lus_tree.specs.declared.place.Sort.{Sort}
use Rattle.lus_tree.specs.declared.place.Sort.TheVariants.{Bool as Flags, Int as Numbers}
use Rattle.lus_meaning.specs.Value.{Value, absent, flag, whole, has_sort}
use Rattle.lus_meaning.specs.Run.{Takes, sort_of_operator}
use Rattle.kind_num.specs.declared.Shape.{Shape}
use Rattle.sys_terms.specs.View.{Formula, truth, negation, both, same, choice, at_most, equal, Amount, constant, number, plus, minus, multiple, chosen, quotient, remainder}
use Rattle.sys_terms.specs.View as t
use Rattle.sys_terms.specs.Fits.{is_zero, fits, amount_fits, is_present, amount_is_present, all_fit, all_fit_one, weight, heaviest, heaviest_in, is_light_weight, all_light}
use Rattle.sys_meaning.specs.Part.{Part, a_flag, a_number, formula_of, amount_of, fixed, variable_in, zero_of, either, implies, all_after, all_of, some_after, some_of, not_part, minus_part, choose_part, equal_parts, of_formulas, of_amounts, of_order, operate, scaled, divided, rest_of}
use Rattle.sys_meaning.specs.System.{shape_of}

-- V says of a variable of a type, by its number and whether it is of the next state, that it may stand there
abbrev pub Variables : Type 1
Variables = Sort → ℕ → Bool → Type 0

module _ (V : Variables) (limit : ℕ) where
  abbrev mutual
    pub Fine : Formula → Type 0
    Fine (truth b) = Unit {0}
    Fine (t.flag v) = V Flags v.number v.next
    Fine (negation f) = Fine f
    Fine (both f g) = Fine f × Fine g
    Fine (same f g) = Fine f × Fine g
    Fine (choice c f g) = Fine c × Fine f × Fine g
    Fine (at_most a b) = FineNumber a × FineNumber b
    Fine (equal a b) = FineNumber a × FineNumber b

    pub FineNumber : Amount → Type 0
    FineNumber (constant n) = weight (constant n) ≤ limit
    FineNumber (number v) = V Numbers v.number v.next
    FineNumber (plus a b) = (weight (plus a b) ≤ limit) × FineNumber a × FineNumber b
    FineNumber (minus a b) = (weight (minus a b) ≤ limit) × FineNumber a × FineNumber b
    FineNumber (multiple n a) = (weight (multiple n a) ≤ limit) × FineNumber a
    FineNumber (chosen c a b) = (weight (chosen c a b) ≤ limit) × Fine c × FineNumber a × FineNumber b
    FineNumber (quotient a d) = (weight (quotient a d) ≤ limit) × (is_zero d ≡ false) × (unsigned_abs d ≤ limit) × FineNumber a
    FineNumber (remainder a d) = (is_zero d ≡ false) × (unsigned_abs d ≤ limit) × FineNumber a

  abbrev pub FineParts : Sort → Part → Type 0
  FineParts Flags (a_flag f) = Fine f
  FineParts Numbers (a_number a) = FineNumber a
  FineParts Flags (a_number a) = ⊥
  FineParts Numbers (a_flag f) = ⊥

-- an operator that is no product, quotient or remainder
abbrev pub IsPlain : Operator → Type 0
IsPlain Mul = ⊥
IsPlain Div = ⊥
IsPlain Mod = ⊥
IsPlain o = Unit {0}

-- how heavy a part is
abbrev pub part_weight : Part → ℕ
part_weight p = weight (amount_of p)

-- ---- what follows: it fits, speaks of this state, and is light

module _ (shapes : List Shape) (V : Variables) (limit : ℕ) (shown : (z : Sort) (n : ℕ) (b : Bool) → V z n b → slice_get shapes n ≡ Some (shape_of z)) where
  mutual
    pub fine_fits : (f : Formula) → Fine V limit f → fits shapes f ≡ true
    fine_fits (truth b) h = refl
    fine_fits (t.flag v) h = rw (shown Flags v.number v.next h) refl
    fine_fits (negation f) h = fine_fits f h
    fine_fits (both f g) h = rw (fine_fits f h.0, fine_fits g h.1) refl
    fine_fits (same f g) h = rw (fine_fits f h.0, fine_fits g h.1) refl
    fine_fits (choice c f g) h = rw (fine_fits c h.0, fine_fits f h.1, fine_fits g h.2) refl
    fine_fits (at_most a b) h = rw (fine_number_fits a h.0, fine_number_fits b h.1) refl
    fine_fits (equal a b) h = rw (fine_number_fits a h.0, fine_number_fits b h.1) refl

    fine_number_fits : (a : Amount) → FineNumber V limit a → amount_fits shapes a ≡ true
    fine_number_fits (constant n) h = refl
    fine_number_fits (number v) h = rw (shown Numbers v.number v.next h) refl
    fine_number_fits (plus a b) h = rw (fine_number_fits a h.1, fine_number_fits b h.2) refl
    fine_number_fits (minus a b) h = rw (fine_number_fits a h.1, fine_number_fits b h.2) refl
    fine_number_fits (multiple n a) h = fine_number_fits a h.1
    fine_number_fits (chosen c a b) h = rw (fine_fits c h.1, fine_number_fits a h.2, fine_number_fits b h.3) refl
    fine_number_fits (quotient a d) h = rw (fine_number_fits a h.3, h.1) refl
    fine_number_fits (remainder a d) h = rw (fine_number_fits a h.2, h.0) refl

  pub all_fine_fit : (fs : List Formula) → AllByRecursion (Fine V limit) fs → all_fit shapes fs ≡ true
  all_fine_fit [] a = refl
  all_fine_fit (f ∷ fs) a = rw (fine_fits f a.0, all_fine_fit fs a.1) refl

  module _ (now : (z : Sort) (n : ℕ) (b : Bool) → V z n b → b ≡ false) where
    mutual
      fine_present : (f : Formula) → Fine V limit f → is_present f ≡ true
      fine_present (truth b) h = refl
      fine_present (t.flag v) h = rw (now Flags v.number v.next h) refl
      fine_present (negation f) h = fine_present f h
      fine_present (both f g) h = rw (fine_present f h.0, fine_present g h.1) refl
      fine_present (same f g) h = rw (fine_present f h.0, fine_present g h.1) refl
      fine_present (choice c f g) h = rw (fine_present c h.0, fine_present f h.1, fine_present g h.2) refl
      fine_present (at_most a b) h = rw (fine_number_present a h.0, fine_number_present b h.1) refl
      fine_present (equal a b) h = rw (fine_number_present a h.0, fine_number_present b h.1) refl

      fine_number_present : (a : Amount) → FineNumber V limit a → amount_is_present a ≡ true
      fine_number_present (constant n) h = refl
      fine_number_present (number v) h = rw (now Numbers v.number v.next h) refl
      fine_number_present (plus a b) h = rw (fine_number_present a h.1, fine_number_present b h.2) refl
      fine_number_present (minus a b) h = rw (fine_number_present a h.1, fine_number_present b h.2) refl
      fine_number_present (multiple n a) h = fine_number_present a h.1
      fine_number_present (chosen c a b) h =
          rw (fine_present c h.1, fine_number_present a h.2, fine_number_present b h.3) refl
      fine_number_present (quotient a d) h = fine_number_present a h.3
      fine_number_present (remainder a d) h = fine_number_present a h.2

    pub all_fine_fit_one : (fs : List Formula) → AllByRecursion (Fine V limit) fs → all_fit_one shapes fs ≡ true
    all_fine_fit_one [] a = refl
    all_fine_fit_one (f ∷ fs) a = rw (fine_fits f a.0, fine_present f a.0, all_fine_fit_one fs a.1) refl

module _ (V : Variables) (limit : ℕ) (least : 1 ≤ limit) where
  mutual
    fine_light : (f : Formula) → Fine V limit f → heaviest f ≤ limit
    fine_light (truth b) h = omega arith
    fine_light (t.flag v) h = omega arith
    fine_light (negation f) h = fine_light f h
    fine_light (both f g) h = let x = fine_light f h.0 in let y = fine_light g h.1 in omega (arith, x, y)
    fine_light (same f g) h = let x = fine_light f h.0 in let y = fine_light g h.1 in omega (arith, x, y)
    fine_light (choice c f g) h =
        let x = fine_light c h.0 in let y = fine_light f h.1 in let z = fine_light g h.2 in omega (arith, x, y, z)
    fine_light (at_most a b) h = let x = number_light a h.0 in let y = number_light b h.1 in omega (arith, x, y)
    fine_light (equal a b) h = let x = number_light a h.0 in let y = number_light b h.1 in omega (arith, x, y)

    number_light : (a : Amount) → FineNumber V limit a → heaviest_in a ≤ limit
    number_light (constant n) h = h
    number_light (number v) h = least
    number_light (plus a b) h =
        let w : weight (plus a b) ≤ limit = h.0 in let x = number_light a h.1 in let y = number_light b h.2 in omega (arith, w, x, y)
    number_light (minus a b) h =
        let w : weight (minus a b) ≤ limit = h.0 in let x = number_light a h.1 in let y = number_light b h.2 in omega (arith, w, x, y)
    number_light (multiple n a) h =
        let w : weight (multiple n a) ≤ limit = h.0 in let x = number_light a h.1 in omega (arith, w, x)
    number_light (chosen c a b) h =
        let w : weight (chosen c a b) ≤ limit = h.0 in let z = fine_light c h.1 in let x = number_light a h.2 in
        let y = number_light b h.3 in omega (arith, w, x, y, z)
    number_light (quotient a d) h =
        let w : weight (quotient a d) ≤ limit = h.0 in let x = number_light a h.3 in
        let y : unsigned_abs d ≤ limit = h.2 in omega (arith, w, x, y)
    number_light (remainder a d) h =
        let x = number_light a h.2 in let y : unsigned_abs d ≤ limit = h.1 in omega (arith, x, y)

  -- a number of a fine term weighs no more than the limit
  pub weight_within : (a : Amount) → FineNumber V limit a → weight a ≤ limit
  weight_within (constant n) h = h
  weight_within (number v) h = least
  weight_within (plus a b) h = h.0
  weight_within (minus a b) h = h.0
  weight_within (multiple n a) h = h.0
  weight_within (chosen c a b) h = h.0
  weight_within (quotient a d) h = h.0
  weight_within (remainder a d) h = h.1

  pub all_fine_light : is_light_weight limit ≡ true → ((n : ℕ) → n ≤ limit → is_light_weight n ≡ true) → (fs : List Formula) →
      AllByRecursion (Fine V limit) fs → all_light fs ≡ true
  all_fine_light e m [] a = refl
  all_fine_light e m (f ∷ fs) a = rw (m (heaviest f) (fine_light f a.0), all_fine_light e m fs a.1) refl

  -- ---- made of fine terms

  abbrev Good : Formula → Type 0
  Good = Fine V limit

  abbrev GoodPart : Sort → Part → Type 0
  GoodPart = FineParts V limit

  pub fine_variable : (b : Bool) (z : Sort) (n : ℕ) → V z n b → FineParts V limit z (variable_in b z n)
  fine_variable b Flags n h = h
  fine_variable b Numbers n h = h

  pub fine_zero : (z : Sort) → FineParts V limit z (zero_of z)
  fine_zero Flags = tt
  fine_zero Numbers = omega arith

  pub fine_formula : (p : Part) → FineParts V limit Flags p → Fine V limit (formula_of p)
  fine_formula (a_flag f) h = h
  fine_formula (a_number a) h = absurd h

  pub fine_equal : (z : Sort) (p q : Part) → FineParts V limit z p → FineParts V limit z q → Fine V limit (equal_parts p q)
  fine_equal Flags (a_flag f) (a_flag g) h k = (h, k)
  fine_equal Numbers (a_number a) (a_number b) h k = (h, k)
  fine_equal Flags (a_flag f) (a_number b) h k = absurd k
  fine_equal Flags (a_number a) q h k = absurd h
  fine_equal Numbers (a_number a) (a_flag g) h k = absurd k
  fine_equal Numbers (a_flag f) q h k = absurd h

  pub fine_choice : (z : Sort) (c : Formula) (p q : Part) → Fine V limit c → FineParts V limit z p → FineParts V limit z q →
      FineParts V limit z (choose_part c p q)
  fine_choice Flags c (a_flag f) (a_flag g) e h k = (e, h, k)
  fine_choice Numbers c (a_number a) (a_number b) e h k =
      let x = weight_within a h in let y = weight_within b k in (omega (arith, x, y), e, h, k)
  fine_choice Flags c (a_flag f) (a_number b) e h k = absurd k
  fine_choice Flags c (a_number a) q e h k = absurd h
  fine_choice Numbers c (a_number a) (a_flag g) e h k = absurd k
  fine_choice Numbers c (a_flag f) q e h k = absurd h

  pub fine_fixed : (z : Sort) (v : Value) → has_sort z v ≡ true → part_weight (fixed v) ≤ limit → FineParts V limit z (fixed v)
  fine_fixed Flags (flag b) h l = tt
  fine_fixed Numbers (whole n) h l = l
  fine_fixed Flags absent h l = absurd (false≢true h)
  fine_fixed Flags (whole n) h l = absurd (false≢true h)
  fine_fixed Numbers absent h l = absurd (false≢true h)
  fine_fixed Numbers (flag b) h l = absurd (false≢true h)

  pub fine_not : (p : Part) → FineParts V limit Flags p → FineParts V limit Flags (not_part p)
  fine_not (a_flag f) h = h
  fine_not (a_number a) h = absurd h

  all_after_fine : (f : Formula) (fs : List Formula) → Fine V limit f → AllByRecursion (Fine V limit) fs → Fine V limit (all_after f fs)
  all_after_fine f [] h a = h
  all_after_fine f (g ∷ gs) h a = all_after_fine (both f g) gs (h, a.0) a.1

  pub all_of_fine : (fs : List Formula) → AllByRecursion (Fine V limit) fs → Fine V limit (all_of fs)
  all_of_fine [] a = tt
  all_of_fine (f ∷ fs) a = all_after_fine f fs a.0 a.1

  some_after_fine : (f : Formula) (fs : List Formula) → Fine V limit f → AllByRecursion (Fine V limit) fs → Fine V limit (some_after f fs)
  some_after_fine f [] h a = h
  some_after_fine f (g ∷ gs) h a = some_after_fine (either f g) gs (h, a.0) a.1

  pub some_of_fine : (fs : List Formula) → AllByRecursion (Fine V limit) fs → Fine V limit (some_of fs)
  some_of_fine [] a = tt
  some_of_fine (f ∷ fs) a = some_after_fine f fs a.0 a.1

  -- ---- operators

  of_flags : (w : Formula → Formula → Formula) → ((f g : Formula) → Fine V limit f → Fine V limit g → Fine V limit (w f g)) → (p q : Part) →
      FineParts V limit Flags p → FineParts V limit Flags q → FineParts V limit Flags (of_formulas w p q)
  of_flags w m (a_flag f) (a_flag g) h k = m f g h k
  of_flags w m (a_flag f) (a_number b) h k = absurd k
  of_flags w m (a_number a) q h k = absurd h

  of_orders : (w : Amount → Amount → Formula) → ((a b : Amount) → FineNumber V limit a → FineNumber V limit b → Fine V limit (w a b)) → (p q : Part) →
      FineParts V limit Numbers p → FineParts V limit Numbers q → FineParts V limit Flags (of_order w p q)
  of_orders w m (a_number a) (a_number b) h k = m a b h k
  of_orders w m (a_number a) (a_flag g) h k = absurd k
  of_orders w m (a_flag f) q h k = absurd h

  of_numbers : (w : Amount → Amount → Amount) →
      ((a b : Amount) → weight a + weight b ≤ limit → FineNumber V limit a → FineNumber V limit b → FineNumber V limit (w a b)) → (p q : Part) →
      part_weight p + part_weight q ≤ limit → FineParts V limit Numbers p → FineParts V limit Numbers q → FineParts V limit Numbers (of_amounts w p q)
  of_numbers w m (a_number a) (a_number b) l h k = m a b l h k
  of_numbers w m (a_number a) (a_flag g) l h k = absurd k
  of_numbers w m (a_flag f) q l h k = absurd h

  abbrev as_sort : (s : Sort) (z : Sort) (p : Part) → s ≡ z → GoodPart s p → GoodPart z p
  as_sort s z p e h = subst (λ k. GoodPart k p) e h

  -- an operator without a constant operand, of operands of the type that it takes; the weights count for sums alone
  pub fine_operated : (o : Operator) (s : Sort) (p q : Part) → IsPlain o → Takes o s →
      (sort_of_operator o ≡ Numbers → part_weight p + part_weight q ≤ limit) →
      FineParts V limit s p → FineParts V limit s q → FineParts V limit (sort_of_operator o) (operate o p q)
  fine_operated Implies s p q i e l h k = of_flags implies (λ f g x y. (x, y)) p q (as_sort s Flags p e h) (as_sort s Flags q e k)
  fine_operated Or s p q i e l h k = of_flags either (λ f g x y. (x, y)) p q (as_sort s Flags p e h) (as_sort s Flags q e k)
  fine_operated Xor s p q i e l h k = of_flags _ (λ f g x y. (x, y)) p q (as_sort s Flags p e h) (as_sort s Flags q e k)
  fine_operated And s p q i e l h k = of_flags both (λ f g x y. (x, y)) p q (as_sort s Flags p e h) (as_sort s Flags q e k)
  fine_operated Equal s p q i e l h k = fine_equal s p q h k
  fine_operated Differs s p q i e l h k = fine_equal s p q h k
  fine_operated Less s p q i e l h k = of_orders _ (λ a b x y. (y, x)) p q (as_sort s Numbers p e h) (as_sort s Numbers q e k)
  fine_operated AtMost s p q i e l h k = of_orders _ (λ a b x y. (x, y)) p q (as_sort s Numbers p e h) (as_sort s Numbers q e k)
  fine_operated AtLeast s p q i e l h k = of_orders _ (λ a b x y. (y, x)) p q (as_sort s Numbers p e h) (as_sort s Numbers q e k)
  fine_operated More s p q i e l h k = of_orders _ (λ a b x y. (x, y)) p q (as_sort s Numbers p e h) (as_sort s Numbers q e k)
  fine_operated Add s p q i e l h k =
      of_numbers plus (λ a b m x y. (m, x, y)) p q (l refl) (as_sort s Numbers p e h) (as_sort s Numbers q e k)
  fine_operated Sub s p q i e l h k =
      of_numbers minus (λ a b m x y. (m, x, y)) p q (l refl) (as_sort s Numbers p e h) (as_sort s Numbers q e k)
  fine_operated Mul s p q i e l h k = absurd i
  fine_operated Div s p q i e l h k = absurd i
  fine_operated Mod s p q i e l h k = absurd i

  pub fine_scaled : (n : ℤ) (p : Part) → unsigned_abs n * part_weight p ≤ limit → FineParts V limit Numbers p → FineParts V limit Numbers (scaled n p)
  fine_scaled n (a_number a) l h = (l, h)
  fine_scaled n (a_flag f) l h = absurd h

  pub fine_minus : (p : Part) → FineParts V limit Numbers p → FineParts V limit Numbers (minus_part p)
  fine_minus (a_number a) h =
      let w : weight a ≤ limit = weight_within a h in
      let e : unsigned_abs (negsuc 0) * weight a ≡ weight a = grind arith in (omega (arith, w, e), h)
  fine_minus (a_flag f) h = absurd h

  pub fine_divided : (p : Part) (d : ℤ) → is_zero d ≡ false → unsigned_abs d ≤ limit → FineParts V limit Numbers p →
      FineParts V limit Numbers (divided p d)
  fine_divided (a_number a) d z l h = let w = weight_within a h in (omega (arith, w), z, l, h)
  fine_divided (a_flag f) d z l h = absurd h

  pub fine_rest : (p : Part) (d : ℤ) → is_zero d ≡ false → unsigned_abs d ≤ limit → FineParts V limit Numbers p →
      FineParts V limit Numbers (rest_of p d)
  fine_rest (a_number a) d z l h = (z, l, h)
  fine_rest (a_flag f) d z l h = absurd h
