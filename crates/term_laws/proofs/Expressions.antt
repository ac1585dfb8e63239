-- The term of a light expression is fine, and weighs no more than the expression.
use Rattle.std.proofs.Common.{◌≡◌, ℕ, zero, suc, ◌<◌, ◌≤◌, ◌+◌, ◌*◌, Bool, true, false, cond, ◌&&◌, List, [], ◌∷◌, map, length, Option, Some, None, option_map, refl, sym, ap, ◌∙◌, subst, arith, ℤ, negsuc}
use Rattle.std.specs.Prelude.{max, unsigned_abs, is_some, option_to_list, unwrap_or}
use Rattle.std.specs.List.{AllByRecursion}
use Rattle.std.specs.Map.{lookup}
use Rattle.std.specs.Str.{bytes_eq}
use Rattle.std.proofs.Math.Logic.{inl, inr}
use Rattle.std.proofs.lemmas.Bool.{false≢true}
use Rattle.lus_tree.specs.declared.expression.Operator.{Operator}
use Rattle.lus_tree.specs.declared.expression.Operator.TheVariants.{Implies, Or, Xor, And, Less, AtMost, Equal, Differs, AtLeast, More, Add, Sub, Mul, Div, Mod}
use Rattle.lus_tree.specs.declared.place.Sort.{Sort}
use Rattle.lus_tree.specs.declared.place.Sort.TheVariants.{Bool as Flags, Int as Numbers}
use Rattle.lus_tree.specs.Tree.{Name, text_of, Expression, Expressions, truth, number, name, negation, minus, pre, arrow, binary, choice, sampled, merged, call, condact, mode_name, Variable}
use Rattle.lus_meaning.specs.Value.{Value, absent, flag, whole, has_sort}
use Rattle.lus_meaning.specs.Frame.{empty_frame, entry}
use Rattle.lus_meaning.specs.Meaning.{constant_or, mode_key}
use Rattle.lus_meaning.specs.Scene.{Manner, Clock, base, sampled_by, Instance, component_of, constants_of, call_instance, instance_called, outputs_of, clock_of, variables}
use Rattle.lus_meaning.specs.Run.{Takes, sort_of, sort_of_name, sort_of_operator, output_sort, first_sort}
use Rattle.lus_meaning.specs.Depends.{named_in}
use Rattle.lus_meaning.proofs.Lists.{all_from_both, mapped_all}
use Rattle.rule_laws.proofs.Lists.{each_named}
use Rattle.lus_meaning.proofs.Typed.{has_as, not_has, minus_has, apply_has, choose_has}
use Rattle.rule_laws.proofs.Truths.{both_true}
use Rattle.sys_terms.specs.View.{Formula, Amount}
use Rattle.sys_terms.specs.View as t
use Rattle.sys_terms.specs.Fits.{weight}
use Rattle.sys_meaning.specs.Slot.{beat, named, memory, starting, held, Place, own, in_call, Spot}
use Rattle.sys_meaning.specs.Items.{Key, Known}
use Rattle.sys_meaning.specs.Defaults.{is_constant}
use Rattle.sys_meaning.specs.Part.{Part, a_flag, a_number, formula_of, fixed, variable, either, implies, of_formulas, of_order, not_part, minus_part, choose_part, operate, scaled, divided, rest_of}
use Rattle.sys_meaning.specs.Translate.{Stage, flag_at, name_part, name_flag, present_within, present, output_part, held_part, latest_part, head_part, or_constant, number_of_value, constant_number, binary_part, term_of, right_terms, formula}
use Rattle.sys_meaning.specs.WellTyped.{IsNameOn, NameFits, OutputFits, HasConstant, HasPlaceIn, IsKnown, IsCall, IsHeldCall, ClockEnds, ClockFits, Stands, right_sorts}
use Rattle.term_laws.proofs.Fine.{Variables, Fine, FineParts, part_weight, fine_variable, fine_formula, fine_choice, fine_fixed, fine_not, IsPlain, fine_operated, fine_scaled, fine_minus, fine_divided, fine_rest}
use Rattle.term_laws.proofs.Weights.{times_more, no_number, value_size, name_size, operator_size, value_here, weighs, Light, light_root, constant_size}

-- ---- weights of parts

fixed_weight : (v : Value) → part_weight (fixed v) ≤ value_size v
fixed_weight absent = omega arith
fixed_weight (flag b) = omega arith
fixed_weight (whole n) = omega arith

pub variable_weight : (b : Sort) (n : ℕ) → part_weight (variable b n) ≤ 1
variable_weight Flags n = omega arith
variable_weight Numbers n = omega arith

pub choice_weight : (c : Formula) (p q : Part) → part_weight (choose_part c p q) ≤ max 1 (max (part_weight p) (part_weight q))
choice_weight c (a_flag f) (a_flag g) = omega arith
choice_weight c (a_number a) (a_number b) = omega arith
choice_weight c (a_flag f) (a_number b) = omega arith
choice_weight c (a_number a) (a_flag g) = omega arith

minus_weight : (p : Part) → part_weight (minus_part p) ≤ part_weight p
minus_weight (a_flag f) = omega arith
minus_weight (a_number a) = let e : unsigned_abs (negsuc 0) * weight a ≡ weight a = grind arith in omega (arith, e)

not_weight : (p : Part) → part_weight (not_part p) ≤ 0
not_weight (a_flag f) = omega arith
not_weight (a_number a) = omega arith

scaled_weight : (n : ℤ) (p : Part) → part_weight (scaled n p) ≤ unsigned_abs n * part_weight p
scaled_weight n (a_number a) = omega arith
scaled_weight n (a_flag f) = omega arith

divided_weight : (p : Part) (d : ℤ) → part_weight (divided p d) ≤ max 1 (part_weight p)
divided_weight (a_number a) d = omega arith
divided_weight (a_flag f) d = omega arith

rest_weight : (p : Part) (d : ℤ) → part_weight (rest_of p d) ≤ unsigned_abs d
rest_weight (a_number a) d = omega arith
rest_weight (a_flag f) d = omega arith

number_size : (v : Value) → has_sort Numbers v ≡ true → unsigned_abs (number_of_value v) ≡ value_size v
number_size (whole n) h = refl
number_size absent h = absurd (false≢true h)
number_size (flag b) h = absurd (false≢true h)

flags_weight : (w : Formula → Formula → Formula) (p q : Part) → part_weight (of_formulas w p q) ≤ 0
flags_weight w (a_flag f) (a_flag g) = omega arith
flags_weight w (a_flag f) (a_number b) = omega arith
flags_weight w (a_number a) q = omega arith

order_weight : (w : Amount → Amount → Formula) (p q : Part) → part_weight (of_order w p q) ≤ 0
order_weight w (a_number f) (a_number g) = omega arith
order_weight w (a_number f) (a_flag b) = omega arith
order_weight w (a_flag a) q = omega arith

-- ---- constants have their types

module _ (i : Instance) where
  name_typed : (o : Option Value) (c : Clock) (x : Name) → is_some o ≡ true → NameFits i (IsKnown i) o c x →
      has_sort (sort_of_name i x) (constant_or o (λ t. true) (entry empty_frame x) 0) ≡ true
  name_typed None c x e h = absurd (false≢true e)
  name_typed (Some v) c x e h = h

  pub constant_typed : (e : Expression) (c : Clock) → Stands i (IsKnown i) c e → is_constant (constants_of i) e ≡ true →
      has_sort (sort_of i e) (value_here i e) ≡ true
  constant_typed (truth p b) c h k = refl
  constant_typed (number p n) c h k = refl
  constant_typed (name p x) c h k = name_typed (lookup (bytes_eq x) (constants_of i)) c x k h
  constant_typed (negation p a) c h k = not_has (value_here i a) (has_as (sort_of i a) Flags (value_here i a) h.0 (constant_typed a c h.1 k))
  constant_typed (minus p a) c h k = minus_has (value_here i a) (has_as (sort_of i a) Numbers (value_here i a) h.0 (constant_typed a c h.1 k))
  constant_typed (binary p o a b) c h k =
      let q = both_true (is_constant (constants_of i) a) (is_constant (constants_of i) b) k in
      apply_has o (sort_of i a) (value_here i a) (value_here i b) h.0 (constant_typed a c h.3 q.0)
      (has_as (sort_of i b) (sort_of i a) (value_here i b) h.1 (constant_typed b c h.4 q.1))
  constant_typed (choice p a b d) c h k =
      let q = both_true (is_constant (constants_of i) a) (is_constant (constants_of i) b && is_constant (constants_of i) d) k in
      let r = both_true (is_constant (constants_of i) b) (is_constant (constants_of i) d) q.1 in
      choose_has (sort_of i b) (value_here i a) (value_here i b) (value_here i d)
      (has_as (sort_of i a) Flags (value_here i a) h.0 (constant_typed a c h.2 q.0)) (constant_typed b c h.3 r.0)
      (has_as (sort_of i d) (sort_of i b) (value_here i d) h.1 (constant_typed d c h.4 r.1))
  constant_typed (pre p k a) c h e = absurd (false≢true e)
  constant_typed (arrow p k a b) c h e = absurd (false≢true e)
  constant_typed (sampled p a b x) c h e = absurd (false≢true e)
  constant_typed (merged p x a b) c h e = absurd (false≢true e)
  constant_typed (call p k f as_) c h e = absurd (false≢true e)
  constant_typed (condact p k a f as_ ds) c h e = absurd (false≢true e)
  constant_typed (mode_name p d m) c h e = absurd (false≢true e)

-- ---- terms

module _ (V : Variables) (limit : ℕ) (least : 1 ≤ limit) where
  -- each variable of a frame that runs in that manner, and of those of its calls, may stand at its number
  abbrev pub NumberedAs : Bool → Manner → Instance → (Place → ℕ) → Type 0
  NumberedAs b m i at = (ks : List ℕ) (p : Spot) (z : Sort) → HasPlaceIn IsKnown m ks i p z → V z (at (ks, p)) b

  -- in this state
  abbrev pub Numbered : Manner → Instance → (Place → ℕ) → Type 0
  Numbered = NumberedAs false

  -- parts of these types
  abbrev pub AreParts : List Sort → List Part → Type 0
  AreParts [] [] = Unit {0}
  AreParts (z ∷ zs) (p ∷ ps) = FineParts V limit z p × AreParts zs ps
  AreParts [] (p ∷ ps) = ⊥
  AreParts (z ∷ zs) [] = ⊥

  abbrev pub FineModes : Known Formula → Type 0
  FineModes ms = AllByRecursion (λ m. Fine V limit m.1) ms

  module _ (g : Stage) (m : Manner) (numbered : Numbered m g.place g.number) (modes : FineModes g.modes) where
    abbrev i : Instance
    i = g.place

    abbrev Good : Formula → Type 0
    Good = Fine V limit

    abbrev GoodPart : Sort → Part → Type 0
    GoodPart = FineParts V limit

    pub beat_fine : Fine V limit (flag_at g (own beat))
    beat_fine = numbered [] beat Flags refl

    pub name_fine : (x : Name) (c : Clock) → IsNameOn i (IsKnown i) c x → FineParts V limit (sort_of_name i x) (name_part g x)
    name_fine x c h =
        fine_variable V limit least false (sort_of_name i x) (g.number (own (named x)))
        (numbered [] (named x) (sort_of_name i x) (h.declared, h.stream, refl))

    pub flag_fine : (x : Name) (c : Clock) → IsNameOn i (IsKnown i) c x → sort_of_name i x ≡ Flags → Fine V limit (name_flag g x)
    flag_fine x c h s = numbered [] (named x) Flags (h.declared, h.stream, s)

    -- ---- presence

    pub present_fine : (k : ℕ) (c : Clock) → ClockEnds i (IsKnown i) k c → Fine V limit (present_within k g c)
    present_fine zero base h = beat_fine
    present_fine (suc k) base h = beat_fine
    present_fine zero (sampled_by b x) h = tt
    present_fine (suc k) (sampled_by true x) h = flag_fine x (clock_of (component_of i) x) h.0 h.1
    present_fine (suc k) (sampled_by false x) h =
        (present_fine k (clock_of (component_of i) x) h.2, flag_fine x (clock_of (component_of i) x) h.0 h.1)

    pub presence_fine : (c : Clock) → ClockFits i (IsKnown i) c → Fine V limit (present g c)
    presence_fine c h = present_fine (length (variables (component_of i))) c h

    -- ---- calls

    in_call_fine : (k : ℕ) → IsCall i (IsKnown i) k → (v : Variable) → OutputFits i (IsKnown i) k v → FineParts V limit v.sort (output_part g k v)
    in_call_fine k c v o =
        fine_variable V limit least false v.sort (g.number (in_call k (own (named v.name.text))))
        (numbered (k ∷ []) (named v.name.text) v.sort (c, (o.2, o.3, o.1)))

    pub call_beat_fine : (k : ℕ) → IsCall i (IsKnown i) k → Fine V limit (flag_at g (in_call k (own beat)))
    call_beat_fine k c = numbered (k ∷ []) beat Flags (c, refl)

    held_fine : (k : ℕ) (c : Clock) (a : Expression) (ds : Expressions) → IsHeldCall i (IsKnown i) k c a ds → (v : Variable) →
        OutputFits i (IsKnown i) k v → named_in v.name.text (outputs_of (call_instance i k)) ≡ true → FineParts V limit v.sort (held_part g k v)
    held_fine k c a ds h v o e =
        fine_variable V limit least false v.sort (g.number (own (held k v.name.text)))
        (numbered [] (held k v.name.text) v.sort (c, a, ds, h, e, o.1))

    pub latest_fine : (k : ℕ) (c : Clock) (a : Expression) (ds : Expressions) → IsHeldCall i (IsKnown i) k c a ds → (v : Variable) →
        OutputFits i (IsKnown i) k v → named_in v.name.text (outputs_of (call_instance i k)) ≡ true → FineParts V limit v.sort (latest_part g k v)
    latest_fine k c a ds h v o e =
        fine_choice V limit least v.sort (flag_at g (in_call k (own beat))) (output_part g k v) (held_part g k v) (call_beat_fine k h.call)
        (in_call_fine k h.call v o) (held_fine k c a ds h v o e)

    outputs_fine : (k : ℕ) → IsCall i (IsKnown i) k → (vs : List Variable) → AllByRecursion (OutputFits i (IsKnown i) k) vs →
        AreParts (map (λ v. v.sort) vs) (map (output_part g k) vs)
    outputs_fine k c [] a = tt
    outputs_fine k c (v ∷ vs) a = (in_call_fine k c v a.0, outputs_fine k c vs a.1)

    abbrev pub IsOutput : ℕ → Variable → Type 0
    IsOutput k v = OutputFits i (IsKnown i) k v × (named_in v.name.text (outputs_of (call_instance i k)) ≡ true)

    latests_fine : (k : ℕ) (c : Clock) (a : Expression) (ds : Expressions) → IsHeldCall i (IsKnown i) k c a ds → (vs : List Variable) →
        AllByRecursion (IsOutput k) vs → AreParts (map (λ v. v.sort) vs) (map (latest_part g k) vs)
    latests_fine k c a ds h [] o = tt
    latests_fine k c a ds h (v ∷ vs) o = (latest_fine k c a ds h v o.0.0 o.0.1, latests_fine k c a ds h vs o.1)

    pub all_outputs : (k : ℕ) → IsCall i (IsKnown i) k → AllByRecursion (IsOutput k) (component_of (call_instance i k)).outputs
    all_outputs k c =
        all_from_both (OutputFits i (IsKnown i) k) (λ v. named_in v.name.text (outputs_of (call_instance i k)) ≡ true) (IsOutput k)
        (λ v o e. (o, e)) (component_of (call_instance i k)).outputs c.named
        (mapped_all (λ x. named_in x (outputs_of (call_instance i k)) ≡ true) (λ v. v.name.text) (component_of (call_instance i k)).outputs
        (each_named (outputs_of (call_instance i k))))

    first_part : (z : Sort) (vs : List Variable) (ps : List Part) → z ≡ first_sort vs → 0 < length vs → AreParts (map (λ v. v.sort) vs) ps →
        FineParts V limit z (head_part ps)
    first_part z [] ps e l a = absurd (omega arith)
    first_part z (v ∷ vs) [] e l a = absurd a
    first_part z (v ∷ vs) (p ∷ ps) e l a = subst (λ k. FineParts V limit k p) (sym e) a.0

    first_output_weight : (k : ℕ) (vs : List Variable) → part_weight (head_part (map (output_part g k) vs)) ≤ 1
    first_output_weight k [] = omega arith
    first_output_weight k (v ∷ vs) = variable_weight v.sort (g.number (in_call k (own (named v.name.text))))

    first_latest_weight : (k : ℕ) (vs : List Variable) → part_weight (head_part (map (latest_part g k) vs)) ≤ 1
    first_latest_weight k [] = omega arith
    first_latest_weight k (v ∷ vs) =
        let a = variable_weight v.sort (g.number (in_call k (own (named v.name.text)))) in
        let b = variable_weight v.sort (g.number (own (held k v.name.text))) in
        let c = choice_weight (flag_at g (in_call k (own beat))) (output_part g k v) (held_part g k v) in omega (arith, a, b, c)

    -- ---- modes

    mode_fine : (key : Key) (ms : Known Formula) → FineModes ms → Fine V limit (unwrap_or (lookup (mode_key key) ms) (t.truth false))
    mode_fine key [] a = tt
    mode_fine key (x ∷ ms) a = go (mode_key key x.0) a.0 (mode_fine key ms a.1)
      where
        go : (b : Bool) → Fine V limit x.1 → Fine V limit (unwrap_or (lookup (mode_key key) ms) (t.truth false)) →
            Fine V limit (unwrap_or (cond b (Some x.1) (lookup (mode_key key) ms)) (t.truth false))
        go true h r = h
        go false h r = r

    -- ---- expressions

    pub record TermFine (e : Expression) (q : Part) : Type 0 where
      pub fine : FineParts V limit (sort_of i e) q
      pub light : part_weight q ≤ weighs i e

    abbrev Here : Clock → Expression → Type 0
    Here c e = Stands i (IsKnown i) c e

    fixed_within : (z : Sort) (v : Value) → has_sort z v ≡ true → (z ≡ Numbers → value_size v ≤ limit) → part_weight (fixed v) ≤ limit
    fixed_within Flags (flag b) h l = omega arith
    fixed_within Numbers (whole n) h l = l refl
    fixed_within Flags absent h l = absurd (false≢true h)
    fixed_within Flags (whole n) h l = absurd (false≢true h)
    fixed_within Numbers absent h l = absurd (false≢true h)
    fixed_within Numbers (flag b) h l = absurd (false≢true h)

    pub constant_fine : (e : Expression) (c : Clock) → Stands i (IsKnown i) c e → Light i limit e → is_constant (constants_of i) e ≡ true →
        TermFine e (fixed (value_here i e))
    constant_fine e c h l k =
        let v : Value = value_here i e in
        let t : has_sort (sort_of i e) v ≡ true = constant_typed i e c h k in
        let s : value_size v ≤ weighs i e = constant_size i limit e l k in
        let w : part_weight (fixed v) ≤ value_size v = fixed_weight v in
        record {
          fine = fine_fixed V limit least (sort_of i e) v t
              (fixed_within (sort_of i e) v t (λ z. let b : weighs i e ≤ limit = (light_root i limit e l).0 z in omega (arith, s, b)));
          light = omega (arith, s, w);
        }

    or_constant_fine : (e : Expression) (c : Clock) (q : Part) → Stands i (IsKnown i) c e → Light i limit e →
        (is_constant (constants_of i) e ≡ false → TermFine e q) → TermFine e (or_constant g e q)
    or_constant_fine e c q h l r = go (is_constant (constants_of i) e) refl
      where
        go : (b : Bool) → is_constant (constants_of i) e ≡ b → TermFine e (cond b (fixed (value_here i e)) q)
        go true k = constant_fine e c h l k
        go false k = r k

    variable_name : (p : _) (x : Name) (c : Clock) (o : Option Value) → lookup (bytes_eq x) (constants_of i) ≡ o → is_some o ≡ false →
        NameFits i (IsKnown i) o c x → TermFine (name p x) (name_part g x)
    variable_name p x c None e k h = record {
      fine = fine_variable V limit least false (sort_of_name i x) (g.number (own (named x)))
          (numbered [] (named x) (sort_of_name i x) (h.0, e, refl));
      light = subst (λ o. part_weight (name_part g x) ≤ name_size o) (sym e) (variable_weight (sort_of_name i x) (g.number (own (named x))));
    }
    variable_name p x c (Some v) e k h = absurd (false≢true (sym k))

    as_sort : (z s : Sort) (q : Part) → z ≡ s → FineParts V limit z q → FineParts V limit s q
    as_sort z s q e h = subst (λ k. FineParts V limit k q) e h

    chosen_fine : (z : Sort) (c : Formula) (a b : Expression) (p q : Part) → Fine V limit c → sort_of i a ≡ z → sort_of i b ≡ z →
        TermFine a p → TermFine b q →
        FineParts V limit z (choose_part c p q) × (part_weight (choose_part c p q) ≤ max 1 (max (weighs i a) (weighs i b)))
    chosen_fine z c a b p q h e d r s =
        let w = choice_weight c p q in let x : part_weight p ≤ weighs i a = r.light in let y : part_weight q ≤ weighs i b = s.light in (
          fine_choice V limit least z c p q h (as_sort (sort_of i a) z p e r.fine) (as_sort (sort_of i b) z q d s.fine),
          omega (arith, w, x, y),
        )

    -- a constant operand
    operand_size : (b : Expression) (c : Clock) → Here c b → is_constant (constants_of i) b ≡ true → sort_of i b ≡ Numbers →
        unsigned_abs (constant_number g b) ≡ value_size (value_here i b)
    operand_size b c h k s = number_size (value_here i b) (has_as (sort_of i b) Numbers (value_here i b) s (constant_typed i b c h k))

    operand_within : (b : Expression) (c : Clock) → Here c b → Light i limit b → is_constant (constants_of i) b ≡ true → sort_of i b ≡ Numbers →
        unsigned_abs (constant_number g b) ≤ limit
    operand_within b c h l k s =
        let e : unsigned_abs (constant_number g b) ≡ value_size (value_here i b) = operand_size b c h k s in
        let m : value_size (value_here i b) ≤ weighs i b = constant_size i limit b l k in
        let w : weighs i b ≤ limit = (light_root i limit b l).0 s in omega (arith, e, m, w)

    scaled_fine : (a : Expression) (c : Clock) (q : Part) (w : ℕ) → Here c a → is_constant (constants_of i) a ≡ true → sort_of i a ≡ Numbers →
        FineParts V limit Numbers q → part_weight q ≤ w → value_size (value_here i a) * w ≤ limit →
        FineParts V limit Numbers (scaled (constant_number g a) q) × (part_weight (scaled (constant_number g a) q) ≤ value_size (value_here i a) * w)
    scaled_fine a c q w h k s f l b =
        let e : unsigned_abs (constant_number g a) ≡ value_size (value_here i a) = operand_size a c h k s in
        let m : value_size (value_here i a) * part_weight q ≤ value_size (value_here i a) * w = times_more (value_size (value_here i a))
        (part_weight q) w l in
        let x : unsigned_abs (constant_number g a) * part_weight q ≡ value_size (value_here i a) * part_weight q = ap (λ j. j * part_weight q) e in
        let y : part_weight (scaled (constant_number g a) q) ≤ unsigned_abs (constant_number g a) * part_weight q = scaled_weight (constant_number g a) q in
        (fine_scaled V limit least (constant_number g a) q (omega (arith, x, m, b)) f, omega (arith, x, m, y))

    product_fine : (p : _) (a b : Expression) (c : Clock) (q r : Part) → Here c (binary p Mul a b) → Light i limit (binary p Mul a b) →
        TermFine a q → TermFine b r → TermFine (binary p Mul a b) (binary_part g Mul a b q r)
    product_fine p a b c q r h l x y = go (is_constant (constants_of i) a) refl h.2 (l.0.0 refl)
      where
        size : Bool → ℕ
        size k = operator_size Mul k (value_here i a) (weighs i a) (value_here i b) (weighs i b)

        whole_term : (k : Bool) → is_constant (constants_of i) a ≡ k →
            FineParts V limit Numbers (cond k (scaled (constant_number g a) r) (scaled (constant_number g b) q)) ×
            (part_weight (cond k (scaled (constant_number g a) r) (scaled (constant_number g b) q))
            ≤ operator_size Mul k (value_here i a) (weighs i a) (value_here i b) (weighs i b)) →
            TermFine (binary p Mul a b) (binary_part g Mul a b q r)
        whole_term k e z = record {
          fine = subst (λ j. FineParts V limit Numbers (cond j (scaled (constant_number g a) r) (scaled (constant_number g b) q))) (sym e) z.0;
          light = subst (λ j. part_weight (cond j (scaled (constant_number g a) r) (scaled (constant_number g b) q))
              ≤ operator_size Mul j (value_here i a) (weighs i a) (value_here i b) (weighs i b)) (sym e) z.1;
        }

        go : (k : Bool) → is_constant (constants_of i) a ≡ k → HasConstant i (IsKnown i) Mul a b → weighs i (binary p Mul a b) ≤ limit →
            TermFine (binary p Mul a b) (binary_part g Mul a b q r)
        go true e o w =
            whole_term true e (scaled_fine a c r (weighs i b) h.3 e h.0 (as_sort (sort_of i b) Numbers r (h.1 ∙ h.0) y.fine) y.light
            (subst (λ k. operator_size Mul k (value_here i a) (weighs i a) (value_here i b) (weighs i b) ≤ limit) e w))
        go false e (inl o) w = absurd (false≢true (sym e ∙ o))
        go false e (inr o) w =
            whole_term false e (scaled_fine b c q (weighs i a) h.4 o (h.1 ∙ h.0) (as_sort (sort_of i a) Numbers q h.0 x.fine) x.light
            (subst (λ k. operator_size Mul k (value_here i a) (weighs i a) (value_here i b) (weighs i b) ≤ limit) e w))

    -- an operator that is no product, quotient or remainder
    operated_weight : (o : Operator) (p q : Part) (c : Bool) (v w : Value) (a b : ℕ) → IsPlain o → part_weight p ≤ a → part_weight q ≤ b →
        part_weight (operate o p q) ≤ operator_size o c v a w b
    operated_weight Add p q c v w a b i h k = let s = sum_weight p q in omega (arith, s, h, k)
      where
        sum_weight : (p q : Part) → part_weight (operate Add p q) ≤ part_weight p + part_weight q
        sum_weight (a_number x) (a_number y) = omega arith
        sum_weight (a_flag x) y = omega arith
        sum_weight (a_number x) (a_flag y) = omega arith
    operated_weight Sub p q c v w a b i h k = let s = sum_weight p q in omega (arith, s, h, k)
      where
        sum_weight : (p q : Part) → part_weight (operate Sub p q) ≤ part_weight p + part_weight q
        sum_weight (a_number x) (a_number y) = omega arith
        sum_weight (a_flag x) y = omega arith
        sum_weight (a_number x) (a_flag y) = omega arith
    operated_weight Implies p q c v w a b i h k = flags_weight implies p q
    operated_weight Or p q c v w a b i h k = flags_weight either p q
    operated_weight Xor p q c v w a b i h k = flags_weight _ p q
    operated_weight And p q c v w a b i h k = flags_weight t.both p q
    operated_weight Equal p q c v w a b i h k = omega arith
    operated_weight Differs p q c v w a b i h k = omega arith
    operated_weight Less p q c v w a b i h k = order_weight _ p q
    operated_weight AtMost p q c v w a b i h k = order_weight _ p q
    operated_weight AtLeast p q c v w a b i h k = order_weight _ p q
    operated_weight More p q c v w a b i h k = order_weight _ p q
    operated_weight Mul p q c v w a b i h k = absurd i
    operated_weight Div p q c v w a b i h k = absurd i
    operated_weight Mod p q c v w a b i h k = absurd i

    plain_fine : (p : _) (o : Operator) (a b : Expression) (q r : Part) → IsPlain o → Takes o (sort_of i a) → sort_of i b ≡ sort_of i a →
        Light i limit (binary p o a b) → (sort_of_operator o ≡ Numbers → weighs i a + weighs i b ≤ limit) → TermFine a q → TermFine b r →
        TermFine (binary p o a b) (operate o q r)
    plain_fine p o a b q r i_ e d l w x y =
        let s : part_weight q ≤ weighs i a = x.light in let u : part_weight r ≤ weighs i b = y.light in
        record {
          fine = fine_operated V limit least o (sort_of i a) q r i_ e (λ z. let k : weighs i a + weighs i b ≤ limit = w z in omega (arith, s, u, k)) x.fine
              (as_sort (sort_of i b) (sort_of i a) r d y.fine);
          light = operated_weight o q r (is_constant (constants_of i) a) (value_here i a) (value_here i b) (weighs i a) (weighs i b) i_ s u;
        }

    binary_fine : (p : _) (o : Operator) (a b : Expression) (c : Clock) (q r : Part) → Here c (binary p o a b) → Light i limit (binary p o a b) →
        TermFine a q → TermFine b r → TermFine (binary p o a b) (binary_part g o a b q r)
    binary_fine p Mul a b c q r h l x y = product_fine p a b c q r h l x y
    binary_fine p Div a b c q r h l x y =
        let w : part_weight q ≤ weighs i a = x.light in
        let v : part_weight (divided q (constant_number g b)) ≤ max 1 (part_weight q) = divided_weight q (constant_number g b) in
        record {
          fine = fine_divided V limit least q (constant_number g b) l.0.1 (operand_within b c h.4 l.2 h.2 (h.1 ∙ h.0)) (as_sort
              (sort_of i a) Numbers q h.0 x.fine);
          light = omega (arith, w, v);
        }
    binary_fine p Mod a b c q r h l x y =
        let e : unsigned_abs (constant_number g b) ≡ value_size (value_here i b) = operand_size b c h.4 h.2 (h.1 ∙ h.0) in
        let v : part_weight (rest_of q (constant_number g b)) ≤ unsigned_abs (constant_number g b) = rest_weight q (constant_number g b) in
        record {
          fine = fine_rest V limit least q (constant_number g b) l.0.1 (operand_within b c h.4 l.2 h.2 (h.1 ∙ h.0)) (as_sort
              (sort_of i a) Numbers q h.0 x.fine);
          light = omega (arith, e, v);
        }
    binary_fine p Implies a b c q r h l x y = plain_fine p Implies a b q r tt h.0 h.1 l (λ z. absurd (no_number z)) x y
    binary_fine p Or a b c q r h l x y = plain_fine p Or a b q r tt h.0 h.1 l (λ z. absurd (no_number z)) x y
    binary_fine p Xor a b c q r h l x y = plain_fine p Xor a b q r tt h.0 h.1 l (λ z. absurd (no_number z)) x y
    binary_fine p And a b c q r h l x y = plain_fine p And a b q r tt h.0 h.1 l (λ z. absurd (no_number z)) x y
    binary_fine p Less a b c q r h l x y = plain_fine p Less a b q r tt h.0 h.1 l (λ z. absurd (no_number z)) x y
    binary_fine p AtMost a b c q r h l x y = plain_fine p AtMost a b q r tt h.0 h.1 l (λ z. absurd (no_number z)) x y
    binary_fine p AtLeast a b c q r h l x y = plain_fine p AtLeast a b q r tt h.0 h.1 l (λ z. absurd (no_number z)) x y
    binary_fine p More a b c q r h l x y = plain_fine p More a b q r tt h.0 h.1 l (λ z. absurd (no_number z)) x y
    binary_fine p Equal a b c q r h l x y = plain_fine p Equal a b q r tt h.0 h.1 l (λ z. absurd (no_number z)) x y
    binary_fine p Differs a b c q r h l x y = plain_fine p Differs a b q r tt h.0 h.1 l (λ z. absurd (no_number z)) x y
    binary_fine p Add a b c q r h l x y = plain_fine p Add a b q r tt h.0 h.1 l (λ z. l.0.0 z) x y
    binary_fine p Sub a b c q r h l x y = plain_fine p Sub a b q r tt h.0 h.1 l (λ z. l.0.0 z) x y

    pub term_fine : (e : Expression) (c : Clock) → Stands i (IsKnown i) c e → Light i limit e → TermFine e (term_of g e)
    term_fine (truth p b) c h l = record { fine = tt; light = omega arith }
    term_fine (number p n) c h l = record { fine = l.0 refl; light = omega arith }
    term_fine (name p x) c h l =
        or_constant_fine (name p x) c (name_part g x) h l (λ k. variable_name p x c (lookup (bytes_eq x) (constants_of i)) refl k h)
    term_fine (negation p a) c h l =
        let r = term_fine a c h.1 l.1 in
        or_constant_fine (negation p a) c (not_part (term_of g a)) h l
        (λ k. record { fine = fine_not V limit least (term_of g a) (as_sort (sort_of i a) Flags (term_of g a) h.0 r.fine); light = not_weight (term_of g a) })
    term_fine (minus p a) c h l =
        let r = term_fine a c h.1 l.1 in let w = minus_weight (term_of g a) in let s : part_weight (term_of g a) ≤ weighs i a = r.light in
        or_constant_fine (minus p a) c (minus_part (term_of g a)) h l
        (λ k. record {
          fine = fine_minus V limit least (term_of g a) (as_sort (sort_of i a) Numbers (term_of g a) h.0 r.fine);
          light = omega (arith, w, s);
        })
    term_fine (pre p k a) c h l = record {
      fine = fine_variable V limit least false (sort_of i a) (g.number (own (memory k))) (numbered [] (memory k) (sort_of i a) (c, a, h.0, refl));
      light = variable_weight (sort_of i a) (g.number (own (memory k)));
    }
    term_fine (arrow p k a b) c h l =
        let r = chosen_fine (sort_of i a) (flag_at g (own (starting k))) a b (term_of g a) (term_of g b)
        (numbered [] (starting k) Flags (c, h.0, refl)) refl h.1 (term_fine a c h.2 l.1) (term_fine b c h.3 l.2) in
        record { fine = r.0; light = r.1 }
    term_fine (binary p o a b) c h l =
        or_constant_fine (binary p o a b) c (binary_part g o a b (term_of g a) (term_of g b)) h l
        (λ k. binary_fine p o a b c (term_of g a) (term_of g b) h l (term_fine a c h.3 l.1) (term_fine b c h.4 l.2))
    term_fine (choice p a b d) c h l =
        let r = chosen_fine (sort_of i b) (formula_of (term_of g a)) b d (term_of g b) (term_of g d)
        (fine_formula V limit least (term_of g a) (as_sort (sort_of i a) Flags (term_of g a) h.0 (term_fine a c h.2 l.1).fine)) refl h.1
        (term_fine b c h.3 l.2) (term_fine d c h.4 l.3) in
        or_constant_fine (choice p a b d) c (choose_part (formula_of (term_of g a)) (term_of g b) (term_of g d)) h l
        (λ k. record { fine = r.0; light = r.1 })
    term_fine (sampled p a q x) c h l =
        let r = term_fine a (clock_of (component_of i) x.text) h.2 l.1 in record { fine = r.fine; light = r.light }
    term_fine (merged p x a b) c h l =
        let r = chosen_fine (sort_of i a) (name_flag g x.text) a b (term_of g a) (term_of g b) (flag_fine x.text c h.0 h.1) refl h.2
        (term_fine a (sampled_by true x.text) h.3 l.1) (term_fine b (sampled_by false x.text) h.4 l.2) in
        record { fine = r.0; light = r.1 }
    term_fine (call p k f as_) c h l = record {
      fine = first_part (output_sort (instance_called i f.text)) (component_of (call_instance i k)).outputs _ h.1 h.0.outputs
          (outputs_fine k h.0.call (component_of (call_instance i k)).outputs h.0.call.named);
      light = first_output_weight k (component_of (call_instance i k)).outputs;
    }
    term_fine (condact p k a f as_ ds) c h l = record {
      fine = first_part (output_sort (instance_called i f.text)) (component_of (call_instance i k)).outputs _ h.3 h.0.outputs
          (latests_fine k c a ds h.0 (component_of (call_instance i k)).outputs (all_outputs k h.0.call));
      light = first_latest_weight k (component_of (call_instance i k)).outputs;
    }
    term_fine (mode_name p d x) c h l =
        record { fine = mode_fine (option_to_list (option_map text_of d), x.text) g.modes modes; light = omega arith }

    -- the parts of a right side have its types
    pub right_fine : (e : Expression) (c : Clock) → Stands i (IsKnown i) c e → Light i limit e → AreParts (right_sorts i (IsKnown i) e) (right_terms g e)
    right_fine (call p k f as_) c h l = outputs_fine k h.0.call (component_of (call_instance i k)).outputs h.0.call.named
    right_fine (condact p k a f as_ ds) c h l = latests_fine k c a ds h.0 (component_of (call_instance i k)).outputs (all_outputs k h.0.call)
    right_fine (truth p b) c h l = ((term_fine (truth p b) c h l).fine, tt)
    right_fine (number p b) c h l = ((term_fine (number p b) c h l).fine, tt)
    right_fine (name p b) c h l = ((term_fine (name p b) c h l).fine, tt)
    right_fine (negation p b) c h l = ((term_fine (negation p b) c h l).fine, tt)
    right_fine (minus p b) c h l = ((term_fine (minus p b) c h l).fine, tt)
    right_fine (pre p k b) c h l = ((term_fine (pre p k b) c h l).fine, tt)
    right_fine (arrow p k a b) c h l = ((term_fine (arrow p k a b) c h l).fine, tt)
    right_fine (binary p o a b) c h l = ((term_fine (binary p o a b) c h l).fine, tt)
    right_fine (choice p a b d) c h l = ((term_fine (choice p a b d) c h l).fine, tt)
    right_fine (sampled p a q x) c h l = ((term_fine (sampled p a q x) c h l).fine, tt)
    right_fine (merged p x a b) c h l = ((term_fine (merged p x a b) c h l).fine, tt)
    right_fine (mode_name p d x) c h l = ((term_fine (mode_name p d x) c h l).fine, tt)

    -- a flag's formula
    pub flag_formula : (e : Expression) (c : Clock) → Stands i (IsKnown i) c e → sort_of i e ≡ Flags → Light i limit e → Fine V limit (formula g e)
    flag_formula e c h s l = fine_formula V limit least (term_of g e) (as_sort (sort_of i e) Flags (term_of g e) s (term_fine e c h l).fine)
