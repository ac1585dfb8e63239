-- The term of an expression has the levels and parts that are counted of it.
use Rattle.std.proofs.Common.{◌≡◌, ℕ, zero, suc, ◌≤◌, Bool, true, false, cond, not, List, [], ◌∷◌, map, length, Option, Some, None, option_map, refl, sym, ap, ◌∙◌, subst, arith, ℤ, pos}
use Rattle.std.specs.Prelude.{is_some, option_to_list, unwrap_or}
use Rattle.std.specs.List.{AllByRecursion}
use Rattle.std.specs.Map.{lookup}
use Rattle.std.specs.Str.{bytes_eq}
use Rattle.std.proofs.lemmas.Bool.{false≢true}
use Rattle.lus_tree.specs.declared.expression.Operator.{Operator}
use Rattle.lus_tree.specs.declared.expression.Operator.TheVariants.{Implies, Or, Xor, And, Less, AtMost, Equal, Differs, AtLeast, More, Add, Sub, Mul, Div, Mod}
use Rattle.lus_tree.specs.declared.place.Sort.{Sort}
use Rattle.lus_tree.specs.declared.place.Sort.TheVariants.{Bool as Flags, Int as Numbers}
use Rattle.lus_tree.specs.Tree.{Name, text_of, Expression, truth, number, name, negation, minus, pre, arrow, binary, choice, sampled, merged, call, condact, mode_name, Variable, Component}
use Rattle.lus_meaning.specs.Value.{Value, absent, flag, whole, has_sort}
use Rattle.lus_meaning.specs.Frame.{empty_frame}
use Rattle.lus_meaning.specs.Meaning.{mode_key}
use Rattle.lus_meaning.specs.Scene.{Clock, base, sampled_by, Instance, Scene, component_of, constants_of, call_instance, clock_of, variables}
use Rattle.lus_meaning.specs.Program.{constant_value}
use Rattle.lus_meaning.specs.Run.{Takes, sort_of, sort_of_name}
use Rattle.lus_meaning.specs.Depends.{named_in}
use Rattle.lus_meaning.specs.Sizes.{Size, leaf, above, beside, one, two, three, ModeSizes, is_fixed, operator_size, unless_fixed, size_in, presence_within, presence}
use Rattle.lus_meaning.specs.Sizes as sizes
use Rattle.lus_meaning.proofs.Members.{at_named}
use Rattle.sys_terms.specs.View.{Formula, Amount}
use Rattle.sys_terms.specs.View as t
use Rattle.sys_terms.specs.Meaning.{Values}
use Rattle.sys_terms.specs.Fits.{levels, levels_of, parts, parts_of}
use Rattle.sys_meaning.specs.Slot.{beat, named, memory, starting, held, own, in_call}
use Rattle.sys_meaning.specs.Items.{Known}
use Rattle.sys_meaning.specs.Defaults.{is_constant}
use Rattle.sys_meaning.specs.Part.{Part, a_flag, a_number, formula_of, fixed, variable_in, zero_of, all_after, all_of, some_after, some_of, not_part, minus_part, choose_part, equal_parts, operate, scaled, divided, rest_of, worth}
use Rattle.sys_meaning.specs.Translate.{Stage, flag_at, name_part, name_flag, present_within, present, output_part, held_part, latest_part, head_part, or_constant, constant_number, binary_part, term_of, formula}
use Rattle.sys_meaning.specs.WellTyped.{IsKnown, StreamFits, NameFits, ClockEnds, ClockFits, Stands}
use Rattle.sys_meaning.proofs.Main.{term_has as has_type}
use Rattle.term_laws.proofs.Fine.{IsPlain}

-- ---- sizes of terms

abbrev pub formula_size : Formula → Size
formula_size f = record { levels = levels f; parts = parts f }

abbrev pub amount_size : Amount → Size
amount_size a = record { levels = levels_of a; parts = parts_of a }

abbrev pub part_size : Part → Size
part_size (a_flag f) = formula_size f
part_size (a_number a) = amount_size a

abbrev a_size : ℕ → ℕ → Size
a_size l p = record { levels = l; parts = p }

same_size : (a b : Size) → a.levels ≡ b.levels → a.parts ≡ b.parts → a ≡ b
same_size a b e h = ap (λ l. a_size l a.parts) e ∙ ap (a_size b.levels) h

turned : (a b : Size) → two a b ≡ two b a
turned a b = same_size (two a b) (two b a) (omega arith) (omega arith)

-- ---- types of parts

abbrev pub Has : Sort → Part → Type 0
Has Flags (a_flag f) = Unit {0}
Has Numbers (a_number a) = Unit {0}
Has Flags (a_number a) = ⊥
Has Numbers (a_flag f) = ⊥

has_of : (now next : Values) (z : Sort) (p : Part) → has_sort z (worth now next p) ≡ true → Has z p
has_of now next Flags (a_flag f) h = tt
has_of now next Numbers (a_number a) h = tt
has_of now next Flags (a_number a) h = absurd (false≢true h)
has_of now next Numbers (a_flag f) h = absurd (false≢true h)

pub chosen_size : (z : Sort) (c : Formula) (p q : Part) → Has z p → Has z q →
    part_size (choose_part c p q) ≡ three (formula_size c) (part_size p) (part_size q)
chosen_size Flags c (a_flag f) (a_flag g) h k = refl
chosen_size Numbers c (a_number a) (a_number b) h k = refl
chosen_size Flags c (a_flag f) (a_number b) h k = absurd k
chosen_size Flags c (a_number a) q h k = absurd h
chosen_size Numbers c (a_number a) (a_flag g) h k = absurd k
chosen_size Numbers c (a_flag f) q h k = absurd h

pub equal_size : (z : Sort) (p q : Part) → Has z p → Has z q → formula_size (equal_parts p q) ≡ two (part_size p) (part_size q)
equal_size Flags (a_flag f) (a_flag g) h k = refl
equal_size Numbers (a_number a) (a_number b) h k = refl
equal_size Flags (a_flag f) (a_number b) h k = absurd k
equal_size Flags (a_number a) q h k = absurd h
equal_size Numbers (a_number a) (a_flag g) h k = absurd k
equal_size Numbers (a_flag f) q h k = absurd h

pub formula_part : (p : Part) → Has Flags p → formula_size (formula_of p) ≡ part_size p
formula_part (a_flag f) h = refl
formula_part (a_number a) h = absurd h

pub variable_size : (b : Bool) (z : Sort) (n : ℕ) → part_size (variable_in b z n) ≡ leaf
variable_size b Flags n = refl
variable_size b Numbers n = refl

pub variable_has : (b : Bool) (z : Sort) (n : ℕ) → Has z (variable_in b z n)
variable_has b Flags n = tt
variable_has b Numbers n = tt

pub zero_size : (z : Sort) → part_size (zero_of z) ≡ leaf
zero_size Flags = refl
zero_size Numbers = refl

pub fixed_size : (v : Value) → part_size (fixed v) ≡ leaf
fixed_size absent = refl
fixed_size (flag b) = refl
fixed_size (whole n) = refl

not_size : (p : Part) → Has Flags p → part_size (not_part p) ≡ one (part_size p)
not_size (a_flag f) h = refl
not_size (a_number a) h = absurd h

minus_size : (p : Part) → Has Numbers p → part_size (minus_part p) ≡ one (part_size p)
minus_size (a_number a) h = refl
minus_size (a_flag f) h = absurd h

scaled_size : (n : ℤ) (p : Part) → Has Numbers p → part_size (scaled n p) ≡ one (part_size p)
scaled_size n (a_number a) h = refl
scaled_size n (a_flag f) h = absurd h

divided_size : (p : Part) (d : ℤ) → Has Numbers p → part_size (divided p d) ≡ one (part_size p)
divided_size (a_number a) d h = refl
divided_size (a_flag f) d h = absurd h

rest_size : (p : Part) (d : ℤ) → Has Numbers p → part_size (rest_of p d) ≡ one (part_size p)
rest_size (a_number a) d h = refl
rest_size (a_flag f) d h = absurd h

abbrev as_sort : (s z : Sort) (p : Part) → s ≡ z → Has s p → Has z p
as_sort s z p e h = subst (λ k. Has k p) e h

flags_operated : (o : Operator) (c : Bool) → (p q : Part) → Has Flags p → Has Flags q →
    ((f g : Formula) → part_size (operate o (a_flag f) (a_flag g)) ≡ operator_size o c (formula_size f) (formula_size g)) →
    part_size (operate o p q) ≡ operator_size o c (part_size p) (part_size q)
flags_operated o c (a_flag f) (a_flag g) h k e = e f g
flags_operated o c (a_flag f) (a_number b) h k e = absurd k
flags_operated o c (a_number a) q h k e = absurd h

numbers_operated : (o : Operator) (c : Bool) → (p q : Part) → Has Numbers p → Has Numbers q →
    ((a b : Amount) → part_size (operate o (a_number a) (a_number b)) ≡ operator_size o c (amount_size a) (amount_size b)) →
    part_size (operate o p q) ≡ operator_size o c (part_size p) (part_size q)
numbers_operated o c (a_number a) (a_number b) h k e = e a b
numbers_operated o c (a_number a) (a_flag g) h k e = absurd k
numbers_operated o c (a_flag f) q h k e = absurd h

either_operated : (o : Operator) (c : Bool) (s : Sort) → (p q : Part) → Has s p → Has s q →
    ((f g : Formula) → part_size (operate o (a_flag f) (a_flag g)) ≡ operator_size o c (formula_size f) (formula_size g)) →
    ((a b : Amount) → part_size (operate o (a_number a) (a_number b)) ≡ operator_size o c (amount_size a) (amount_size b)) →
    part_size (operate o p q) ≡ operator_size o c (part_size p) (part_size q)
either_operated o c Flags p q h k e d = flags_operated o c p q h k e
either_operated o c Numbers p q h k e d = numbers_operated o c p q h k d

operated_size : (o : Operator) (c : Bool) (s : Sort) (p q : Part) → IsPlain o → Takes o s → Has s p → Has s q →
    part_size (operate o p q) ≡ operator_size o c (part_size p) (part_size q)
operated_size Implies c s p q i e h k = flags_operated Implies c p q (as_sort s Flags p e h) (as_sort s Flags q e k) (λ f g. refl)
operated_size Or c s p q i e h k = flags_operated Or c p q (as_sort s Flags p e h) (as_sort s Flags q e k) (λ f g. refl)
operated_size Xor c s p q i e h k = flags_operated Xor c p q (as_sort s Flags p e h) (as_sort s Flags q e k) (λ f g. refl)
operated_size And c s p q i e h k = flags_operated And c p q (as_sort s Flags p e h) (as_sort s Flags q e k) (λ f g. refl)
operated_size Equal c s p q i e h k = either_operated Equal c s p q h k (λ f g. refl) (λ a b. refl)
operated_size Differs c s p q i e h k = either_operated Differs c s p q h k (λ f g. refl) (λ a b. refl)
operated_size Less c s p q i e h k =
    numbers_operated Less c p q (as_sort s Numbers p e h) (as_sort s Numbers q e k) (λ a b. ap one (turned (amount_size b) (amount_size a)))
operated_size AtMost c s p q i e h k = numbers_operated AtMost c p q (as_sort s Numbers p e h) (as_sort s Numbers q e k) (λ a b. refl)
operated_size AtLeast c s p q i e h k =
    numbers_operated AtLeast c p q (as_sort s Numbers p e h) (as_sort s Numbers q e k) (λ a b. turned (amount_size b) (amount_size a))
operated_size More c s p q i e h k = numbers_operated More c p q (as_sort s Numbers p e h) (as_sort s Numbers q e k) (λ a b. refl)
operated_size Add c s p q i e h k = numbers_operated Add c p q (as_sort s Numbers p e h) (as_sort s Numbers q e k) (λ a b. refl)
operated_size Sub c s p q i e h k = numbers_operated Sub c p q (as_sort s Numbers p e h) (as_sort s Numbers q e k) (λ a b. refl)
operated_size Mul c s p q i e h k = absurd i
operated_size Div c s p q i e h k = absurd i
operated_size Mod c s p q i e h k = absurd i

-- ---- lists

all_after_size : (f : Formula) (fs : List Formula) →
    formula_size (all_after f fs) ≡ sizes.all_of (formula_size f ∷ map formula_size fs)
all_after_size f [] = refl
all_after_size f (g ∷ gs) = all_after_size (t.both f g) gs

pub all_of_size : (fs : List Formula) → formula_size (all_of fs) ≡ sizes.all_of (map formula_size fs)
all_of_size [] = refl
all_of_size (f ∷ fs) = all_after_size f fs

some_after_size : (f : Formula) (fs : List Formula) →
    formula_size (some_after f fs) ≡ sizes.some_of (formula_size f ∷ map formula_size fs)
some_after_size f [] = refl
some_after_size f (g ∷ gs) = some_after_size (t.negation (t.both (t.negation f) (t.negation g))) gs

pub some_of_size : (fs : List Formula) → formula_size (some_of fs) ≡ sizes.some_of (map formula_size fs)
some_of_size [] = refl
some_of_size (f ∷ fs) = some_after_size f fs

pub three_same : (a b c x y z : Size) → a ≡ x → b ≡ y → c ≡ z → three a b c ≡ three x y z
three_same a b c x y z e f h = ap (λ s. three s b c) e ∙ ap (λ s. three x s c) f ∙ ap (three x y) h

-- ---- constants

fixed_or : (b d : Bool) (v : Value) (q : Part) (s : Size) → part_size q ≡ s → b ≡ d → part_size (cond b (fixed v) q) ≡ cond d leaf s
fixed_or true true v q s r k = fixed_size v
fixed_or false false v q s r k = r
fixed_or true false v q s r k = absurd (false≢true (sym k))
fixed_or false true v q s r k = absurd (false≢true k)

leaf_or : (b : Bool) (v : Value) (q : Part) → part_size q ≡ leaf → part_size (cond b (fixed v) q) ≡ leaf
leaf_or true v q r = fixed_size v
leaf_or false v q r = r

-- ---- expressions

-- modes with the sizes of what they ask
abbrev pub mode_sizes : Known Formula → ModeSizes
mode_sizes ms = map (λ m. (m.0, formula_size m.1)) ms

module _ (g : Stage) (streams : AllByRecursion (StreamFits g.place (IsKnown g.place)) (variables (component_of g.place))) where
  abbrev i : Instance
  i = g.place

  abbrev n : Component
  n = component_of g.place

  abbrev ms : ModeSizes
  ms = mode_sizes g.modes

  -- a scene and values, of which nothing is asked
  abbrev still : Scene
  still = record { place = g.place; frame = empty_frame; beat = λ t. true; modes = [] }

  abbrev none : Values
  none = record { flag_at = λ n. false; number_at = λ n. pos 0 }

  pub term_has : (e : Expression) (c : Clock) → Stands g.place (IsKnown g.place) c e → Has (sort_of g.place e) (term_of g e)
  term_has e c h = has_of none none (sort_of g.place e) (term_of g e) (has_type still (IsKnown g.place) g.number g.modes none none e c h)

  -- ---- constants

  no_stream : (x : Name) (v : Value) → lookup (bytes_eq x) (constants_of i) ≡ Some v → named_in x (map (λ v. v.name.text) (variables n)) ≡ false
  no_stream x v e = go (named_in x (map (λ v. v.name.text) (variables n))) refl
    where
      streams_only : AllByRecursion (λ y. lookup (bytes_eq y) (constants_of g.place) ≡ None) (map (λ v. v.name.text) (variables (component_of g.place)))
      streams_only = each (variables (component_of g.place)) streams
        where
          each : (vs : List Variable) → AllByRecursion (StreamFits g.place (IsKnown g.place)) vs →
              AllByRecursion (λ y. lookup (bytes_eq y) (constants_of g.place) ≡ None) (map (λ v. v.name.text) vs)
          each [] a = tt
          each (w ∷ vs) a = (a.0.name.stream, each vs a.1)

      go : (b : Bool) → named_in x (map (λ v. v.name.text) (variables (component_of g.place))) ≡ b →
          named_in x (map (λ v. v.name.text) (variables (component_of g.place))) ≡ false
      go false q = q
      go true q = absurd (false≢true (ap is_some (sym (at_named (λ y. lookup (bytes_eq y) (constants_of g.place) ≡ None) x
          (map (λ v. v.name.text) (variables (component_of g.place))) streams_only q) ∙ e)))

  name_fixed : (x : Name) (c : Clock) (o : Option Value) → lookup (bytes_eq x) (constants_of i) ≡ o → NameFits i (IsKnown i) o c x →
      not (named_in x (map (λ v. v.name.text) (variables n))) ≡ is_some o
  name_fixed x c None e h = ap not h.0
  name_fixed x c (Some v) e h = ap not (no_stream x v e)

  same_fixed : (e : Expression) (c : Clock) → Stands i (IsKnown i) c e → is_fixed n e ≡ is_constant (constants_of i) e
  same_fixed (truth p b) c h = refl
  same_fixed (number p k) c h = refl
  same_fixed (name p x) c h = name_fixed x c (lookup (bytes_eq x) (constants_of i)) refl h
  same_fixed (negation p a) c h = same_fixed a c h.1
  same_fixed (minus p a) c h = same_fixed a c h.1
  same_fixed (binary p o a b) c h = rw (same_fixed a c h.3, same_fixed b c h.4) refl
  same_fixed (choice p a b d) c h = rw (same_fixed a c h.2, same_fixed b c h.3, same_fixed d c h.4) refl
  same_fixed (pre p k a) c h = refl
  same_fixed (arrow p k a b) c h = refl
  same_fixed (sampled p a q x) c h = refl
  same_fixed (merged p x a b) c h = refl
  same_fixed (call p k f as_) c h = refl
  same_fixed (condact p k a f as_ ds) c h = refl
  same_fixed (mode_name p d x) c h = refl

  or_constant_size : (e : Expression) (c : Clock) (q : Part) (s : Size) → Stands i (IsKnown i) c e → part_size q ≡ s →
      part_size (or_constant g e q) ≡ unless_fixed n e s
  or_constant_size e c q s h r =
      fixed_or (is_constant (constants_of i) e) (is_fixed n e) (constant_value (constants_of i) e) q s r (sym (same_fixed e c h))

  -- ---- presence

  pub presence_size : (k : ℕ) (c : Clock) → ClockEnds i (IsKnown i) k c → formula_size (present_within k g c) ≡ presence_within k n c
  presence_size zero base h = refl
  presence_size (suc k) base h = refl
  presence_size zero (sampled_by b x) h = refl
  presence_size (suc k) (sampled_by true x) h = refl
  presence_size (suc k) (sampled_by false x) h = ap (λ s. two s (one leaf)) (presence_size k (clock_of n x) h.2)

  pub present_size : (c : Clock) → ClockFits i (IsKnown i) c → formula_size (present g c) ≡ presence n c
  present_size c h = presence_size (length (variables n)) c h

  -- ---- calls

  first_output_size : (k : ℕ) (vs : List Variable) → part_size (head_part (map (output_part g k) vs)) ≡ leaf
  first_output_size k [] = refl
  first_output_size k (v ∷ vs) = variable_size false v.sort (g.number (in_call k (own (named v.name.text))))

  pub latest_size : (k : ℕ) (v : Variable) → part_size (latest_part g k v) ≡ three leaf leaf leaf
  latest_size k v =
      chosen_size v.sort (flag_at g (in_call k (own beat))) (output_part g k v) (held_part g k v)
      (variable_has false v.sort (g.number (in_call k (own (named v.name.text))))) (variable_has false v.sort (g.number (own (held k v.name.text))))
      ∙ rw (
        variable_size false v.sort (g.number (in_call k (own (named v.name.text)))),
        variable_size false v.sort (g.number (own
            (held k v.name.text))),
      ) refl

  first_latest_size : (k : ℕ) (vs : List Variable) → 1 ≤ length vs → part_size (head_part (map (latest_part g k) vs)) ≡ three leaf leaf leaf
  first_latest_size k [] l = absurd (omega (arith, l))
  first_latest_size k (v ∷ vs) l = latest_size k v

  mode_size : (key : _) (ks : Known Formula) →
      formula_size (unwrap_or (lookup (mode_key key) ks) (t.truth false)) ≡ unwrap_or (lookup (mode_key key) (mode_sizes ks)) leaf
  mode_size key [] = refl
  mode_size key (x ∷ ks) = go (mode_key key x.0) (mode_size key ks)
    where
      go : (b : Bool) → formula_size (unwrap_or (lookup (mode_key key) ks) (t.truth false)) ≡ unwrap_or (lookup (mode_key key) (mode_sizes ks)) leaf →
          formula_size (unwrap_or (cond b (Some x.1) (lookup (mode_key key) ks)) (t.truth false))
          ≡ unwrap_or (cond b (Some (formula_size x.1)) (lookup (mode_key key) (mode_sizes ks))) leaf
      go true r = refl
      go false r = r

  product_size : (a b : Expression) (c : Clock) (p q : Part) (s r : Size) → Stands i (IsKnown i) c a → Has Numbers p → Has Numbers q →
      part_size p ≡ s → part_size q ≡ r →
      part_size (binary_part g Mul a b p q) ≡ operator_size Mul (is_fixed n a) s r
  product_size a b c p q s r h k l e d = go (is_constant (constants_of i) a) (is_fixed n a) (sym (same_fixed a c h))
    where
      go : (x y : Bool) → x ≡ y → part_size (cond x (scaled (constant_number g a) q) (scaled (constant_number g b) p)) ≡ operator_size Mul y s r
      go true true w = scaled_size (constant_number g a) q l ∙ ap one d
      go false false w = scaled_size (constant_number g b) p k ∙ ap one e
      go true false w = absurd (false≢true (sym w))
      go false true w = absurd (false≢true w)

  plain_size : (o : Operator) (a b : Expression) (c : Bool) (p q : Part) (s r : Size) → IsPlain o → Takes o (sort_of i a) → sort_of i b ≡ sort_of i a →
      Has (sort_of i a) p → Has (sort_of i b) q → part_size p ≡ s → part_size q ≡ r →
      part_size (operate o p q) ≡ operator_size o c s r
  plain_size o a b c p q s r k w d h l e f =
      operated_size o c (sort_of i a) p q k w h (as_sort (sort_of i b) (sort_of i a) q d l) ∙ rw (e, f) refl

  binary_size : (o : Operator) (a b : Expression) (p : _) (c : Clock) (q u : Part) (s r : Size) → Stands i (IsKnown i) c (binary p o a b) →
      Has (sort_of i a) q → Has (sort_of i b) u → part_size q ≡ s → part_size u ≡ r →
      part_size (binary_part g o a b q u) ≡ operator_size o (is_fixed n a) s r
  binary_size Mul a b p c q u s r h k l e f =
      product_size a b c q u s r h.3 (as_sort (sort_of i a) Numbers q h.0 k) (as_sort (sort_of i b) Numbers u (h.1 ∙ h.0) l) e f
  binary_size Div a b p c q u s r h k l e f = divided_size q (constant_number g b) (as_sort (sort_of i a) Numbers q h.0 k) ∙ ap one e
  binary_size Mod a b p c q u s r h k l e f = rest_size q (constant_number g b) (as_sort (sort_of i a) Numbers q h.0 k) ∙ ap one e
  binary_size Implies a b p c q u s r h k l e f = plain_size Implies a b (is_fixed n a) q u s r tt h.0 h.1 k l e f
  binary_size Or a b p c q u s r h k l e f = plain_size Or a b (is_fixed n a) q u s r tt h.0 h.1 k l e f
  binary_size Xor a b p c q u s r h k l e f = plain_size Xor a b (is_fixed n a) q u s r tt h.0 h.1 k l e f
  binary_size And a b p c q u s r h k l e f = plain_size And a b (is_fixed n a) q u s r tt h.0 h.1 k l e f
  binary_size Less a b p c q u s r h k l e f = plain_size Less a b (is_fixed n a) q u s r tt h.0 h.1 k l e f
  binary_size AtMost a b p c q u s r h k l e f = plain_size AtMost a b (is_fixed n a) q u s r tt h.0 h.1 k l e f
  binary_size AtLeast a b p c q u s r h k l e f = plain_size AtLeast a b (is_fixed n a) q u s r tt h.0 h.1 k l e f
  binary_size More a b p c q u s r h k l e f = plain_size More a b (is_fixed n a) q u s r tt h.0 h.1 k l e f
  binary_size Equal a b p c q u s r h k l e f = plain_size Equal a b (is_fixed n a) q u s r tt h.0 h.1 k l e f
  binary_size Differs a b p c q u s r h k l e f = plain_size Differs a b (is_fixed n a) q u s r tt h.0 h.1 k l e f
  binary_size Add a b p c q u s r h k l e f = plain_size Add a b (is_fixed n a) q u s r tt h.0 h.1 k l e f
  binary_size Sub a b p c q u s r h k l e f = plain_size Sub a b (is_fixed n a) q u s r tt h.0 h.1 k l e f

  pub term_size : (e : Expression) (c : Clock) → Stands i (IsKnown i) c e → part_size (term_of g e) ≡ size_in n ms e
  term_size (truth p b) c h = refl
  term_size (number p k) c h = refl
  term_size (name p x) c h =
      leaf_or (is_constant (constants_of i) (name p x)) (constant_value (constants_of i) (name p x)) (name_part g x)
      (variable_size false (sort_of_name i x) (g.number (own (named x))))
  term_size (negation p a) c h =
      or_constant_size (negation p a) c (not_part (term_of g a)) (one (size_in n ms a)) h
      (not_size (term_of g a) (as_sort (sort_of i a) Flags (term_of g a) h.0 (term_has a c h.1)) ∙ ap one (term_size a c h.1))
  term_size (minus p a) c h =
      or_constant_size (minus p a) c (minus_part (term_of g a)) (one (size_in n ms a)) h
      (minus_size (term_of g a) (as_sort (sort_of i a) Numbers (term_of g a) h.0 (term_has a c h.1)) ∙ ap one (term_size a c h.1))
  term_size (pre p k a) c h = variable_size false (sort_of i a) (g.number (own (memory k)))
  term_size (arrow p k a b) c h =
      chosen_size (sort_of i a) (flag_at g (own (starting k))) (term_of g a) (term_of g b) (term_has a c h.2)
      (as_sort (sort_of i b) (sort_of i a) (term_of g b) h.1 (term_has b c h.3))
      ∙ rw (term_size a c h.2, term_size b c h.3) refl
  term_size (binary p o a b) c h =
      or_constant_size (binary p o a b) c (binary_part g o a b (term_of g a) (term_of g b))
      (operator_size o (is_fixed n a) (size_in n ms a) (size_in n ms b)) h
      (binary_size o a b p c (term_of g a) (term_of g b) (size_in n ms a) (size_in n ms b) h (term_has a c h.3) (term_has b c h.4)
      (term_size a c h.3) (term_size b c h.4))
  term_size (choice p a b d) c h =
      or_constant_size (choice p a b d) c (choose_part (formula_of (term_of g a)) (term_of g b) (term_of g d))
      (three (size_in n ms a) (size_in n ms b) (size_in n ms d)) h
      (chosen_size (sort_of i b) (formula_of (term_of g a)) (term_of g b) (term_of g d) (term_has b c h.3)
      (as_sort (sort_of i d) (sort_of i b) (term_of g d) h.1 (term_has d c h.4))
      ∙ three_same _ _ _ _ _ _
      (formula_part (term_of g a) (as_sort (sort_of i a) Flags (term_of g a) h.0 (term_has a c h.2)) ∙ term_size a c h.2)
      (term_size b c h.3) (term_size d c h.4))
  term_size (sampled p a q x) c h = term_size a (clock_of n x.text) h.2
  term_size (merged p x a b) c h =
      chosen_size (sort_of i a) (name_flag g x.text) (term_of g a) (term_of g b) (term_has a (sampled_by true x.text) h.3)
      (as_sort (sort_of i b) (sort_of i a) (term_of g b) h.2 (term_has b (sampled_by false x.text) h.4))
      ∙ rw (term_size a (sampled_by true x.text) h.3, term_size b (sampled_by false x.text) h.4) refl
  term_size (call p k f as_) c h = first_output_size k (component_of (call_instance i k)).outputs
  term_size (condact p k a f as_ ds) c h = first_latest_size k (component_of (call_instance i k)).outputs h.0.outputs
  term_size (mode_name p d x) c h = mode_size (option_to_list (option_map text_of d), x.text) g.modes

  pub flag_size : (e : Expression) (c : Clock) → Stands i (IsKnown i) c e → sort_of i e ≡ Flags →
      formula_size (formula g e) ≡ size_in n ms e
  flag_size e c h s =
      formula_part (term_of g e) (as_sort (sort_of i e) Flags (term_of g e) s (term_has e c h)) ∙ term_size e c h
