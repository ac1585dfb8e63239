-- Terms that compare no numbers, and that those of expressions without integers are such.
use Rattle.std.proofs.Common.{◌≡◌, ℕ, zero, suc, Bool, true, false, cond, List, [], ◌∷◌, map, Option, Some, None, option_map, refl, sym}
use Rattle.std.specs.Prelude.{option_to_list, unwrap_or}
use Rattle.std.specs.List.{AllByRecursion}
use Rattle.std.specs.Map.{lookup}
use Rattle.std.specs.Str.{bytes_eq}
use Rattle.lus_tree.specs.declared.expression.Operator.{Operator}
use Rattle.lus_tree.specs.declared.expression.Operator.TheVariants.{Implies, Or, Xor, And, Less, AtMost, Equal, Differs, AtLeast, More, Add, Sub, Mul, Div, Mod}
use Rattle.lus_tree.specs.declared.place.Sort.{Sort}
use Rattle.lus_tree.specs.declared.place.Sort.TheVariants.{Bool as Flags, Int as Numbers}
use Rattle.lus_tree.specs.Tree.{Name, text_of, Expression, Expressions, truth, number, name, negation, minus, pre, arrow, binary, choice, sampled, merged, call, condact, mode_name, no_more, more, Variable}
use Rattle.lus_meaning.specs.Value.{Value, absent, flag, whole, Instants, not_value, on_flags, on_order, equal_values, apply, choose, is}
use Rattle.lus_meaning.specs.Frame.{empty_frame, entry}
use Rattle.lus_meaning.specs.Meaning.{constant_or, mode_key, value}
use Rattle.lus_meaning.specs.Scene.{Clock, base, sampled_by, Scene, Instance, instance, no_instances, no_component, component_of, constants_of, clock_of, is_on}
use Rattle.lus_meaning.specs.Program.{constant_value}
use Rattle.lus_meaning.specs.Run.{sort_of, sort_of_name}
use Rattle.sys_terms.specs.View.{Formula}
use Rattle.sys_terms.specs.View as t
use Rattle.sys_terms.specs.Boolean.{is_boolean}
use Rattle.sys_meaning.specs.Items.{Key, Known}
use Rattle.sys_meaning.specs.Defaults.{is_constant}
use Rattle.sys_meaning.specs.Part.{Part, a_flag, a_number, formula_of, fixed, variable_in, zero_of, all_after, all_of, some_after, some_of, not_part, choose_part, equal_parts, of_formulas, of_order}
use Rattle.sys_meaning.specs.Translate.{Stage, present_within, present, output_part, latest_part, outputs_at, head_part, or_constant, binary_part, term_of, right_terms, formula}
use Rattle.term_laws.proofs.Weights.{no_number}

-- ---- terms

-- it compares no numbers
abbrev pub Good : Formula → Type 0
Good (t.truth b) = Unit {0}
Good (t.flag v) = Unit {0}
Good (t.negation f) = Good f
Good (t.both f g) = Good f × Good g
Good (t.same f g) = Good f × Good g
Good (t.choice c f g) = Good c × Good f × Good g
Good (t.at_most a b) = ⊥
Good (t.equal a b) = ⊥

abbrev pub AllGood : List Formula → Type 0
AllGood fs = AllByRecursion Good fs

pub good_boolean : (f : Formula) → Good f → is_boolean f ≡ true
good_boolean (t.truth b) h = refl
good_boolean (t.flag v) h = refl
good_boolean (t.negation f) h = good_boolean f h
good_boolean (t.both f g) h = rw (good_boolean f h.0, good_boolean g h.1) refl
good_boolean (t.same f g) h = rw (good_boolean f h.0, good_boolean g h.1) refl
good_boolean (t.choice c f g) h = rw (good_boolean c h.0, good_boolean f h.1, good_boolean g h.2) refl
good_boolean (t.at_most a b) h = absurd h
good_boolean (t.equal a b) h = absurd h

-- a flag's term that compares no numbers
abbrev pub GoodPart : Part → Type 0
GoodPart (a_flag f) = Good f
GoodPart (a_number a) = ⊥

abbrev pub GoodParts : List Part → Type 0
GoodParts ps = AllByRecursion GoodPart ps

pub good_variable : (b : Bool) (s : Sort) (n : ℕ) → s ≡ Flags → GoodPart (variable_in b s n)
good_variable b Flags n e = tt
good_variable b Numbers n e = absurd (no_number (sym e))

pub good_zero : (s : Sort) → s ≡ Flags → GoodPart (zero_of s)
good_zero Flags e = tt
good_zero Numbers e = absurd (no_number (sym e))

pub good_formula : (p : Part) → GoodPart p → Good (formula_of p)
good_formula (a_flag f) h = h
good_formula (a_number a) h = absurd h

pub good_choice : (c : Formula) (p q : Part) → Good c → GoodPart p → GoodPart q → GoodPart (choose_part c p q)
good_choice c (a_flag f) (a_flag g) h i j = (h, i, j)
good_choice c (a_number a) q h i j = absurd i
good_choice c (a_flag f) (a_number b) h i j = absurd j

pub good_equal : (p q : Part) → GoodPart p → GoodPart q → Good (equal_parts p q)
good_equal (a_flag f) (a_flag g) i j = (i, j)
good_equal (a_number a) q i j = absurd i
good_equal (a_flag f) (a_number b) i j = absurd j

good_not : (p : Part) → GoodPart p → GoodPart (not_part p)
good_not (a_flag f) h = h
good_not (a_number a) h = absurd h

good_of_formulas : (w : Formula → Formula → Formula) → ((f g : Formula) → Good f → Good g → Good (w f g)) → (p q : Part) →
    GoodPart p → GoodPart q → GoodPart (of_formulas w p q)
good_of_formulas w k (a_flag f) (a_flag g) i j = k f g i j
good_of_formulas w k (a_number a) q i j = absurd i
good_of_formulas w k (a_flag f) (a_number b) i j = absurd j

good_of_order : (w : t.Amount → t.Amount → Formula) (p q : Part) → GoodPart p → GoodPart q → GoodPart (of_order w p q)
good_of_order w (a_flag f) q i j = tt
good_of_order w (a_number a) q i j = absurd i

pub good_all : (fs : List Formula) → AllGood fs → Good (all_of fs)
good_all [] a = tt
good_all (f ∷ fs) a = go f fs a.0 a.1
  where
    go : (f : Formula) (fs : List Formula) → Good f → AllGood fs → Good (all_after f fs)
    go f [] h a = h
    go f (g ∷ gs) h a = go (t.both f g) gs (h, a.0) a.1

pub good_some : (fs : List Formula) → AllGood fs → Good (some_of fs)
good_some [] a = tt
good_some (f ∷ fs) a = go f fs a.0 a.1
  where
    go : (f : Formula) (fs : List Formula) → Good f → AllGood fs → Good (some_after f fs)
    go f [] h a = h
    go f (g ∷ gs) h a = go _ gs (h, a.0) a.1

pub good_head : (ps : List Part) → GoodParts ps → GoodPart (head_part ps)
good_head [] a = tt
good_head (p ∷ ps) a = a.0

-- ---- expressions

-- it and each of its parts is a truth value
abbrev mutual
  pub Pure : Instance → Expression → Type 0
  Pure i (truth p b) = Unit {0}
  Pure i (number p n) = ⊥
  Pure i (name p x) = sort_of_name i x ≡ Flags
  Pure i (negation p a) = Pure i a
  Pure i (minus p a) = ⊥
  Pure i (pre p k a) = (sort_of i a ≡ Flags) × Pure i a
  Pure i (arrow p k a b) = Pure i a × Pure i b
  Pure i (binary p o a b) = (sort_of i (binary p o a b) ≡ Flags) × Pure i a × Pure i b
  Pure i (choice p a b d) = Pure i a × Pure i b × Pure i d
  Pure i (sampled p a q x) = Pure i a
  Pure i (merged p x a b) = Pure i a × Pure i b
  Pure i (call p k f as_) = PureAmong i as_
  Pure i (condact p k a f as_ ds) = Pure i a × PureAmong i as_ × PureAmong i ds
  Pure i (mode_name p d m) = Unit {0}

  pub PureAmong : Instance → Expressions → Type 0
  PureAmong i no_more = Unit {0}
  PureAmong i (more a as_) = Pure i a × PureAmong i as_

-- ---- values

abbrev pub IsNoNumber : Value → Type 0
IsNoNumber absent = Unit {0}
IsNoNumber (flag b) = Unit {0}
IsNoNumber (whole n) = ⊥

-- a constant that a name of a truth value names is no number
abbrev pub PureConstants : Instance → Type 0
PureConstants i =
    (x : Name) (v : Value) → lookup (bytes_eq x) (constants_of i) ≡ Some v → sort_of_name i x ≡ Flags → IsNoNumber v

none_of_flags : (f : Bool → Bool → Bool) (v w : Value) → IsNoNumber (on_flags f v w)
none_of_flags f (flag a) (flag b) = tt
none_of_flags f absent w = tt
none_of_flags f (whole n) w = tt
none_of_flags f (flag a) absent = tt
none_of_flags f (flag a) (whole n) = tt

none_of_order : (f : _ → _ → Bool) (v w : Value) → IsNoNumber (on_order f v w)
none_of_order f (whole a) (whole b) = tt
none_of_order f absent w = tt
none_of_order f (flag n) w = tt
none_of_order f (whole a) absent = tt
none_of_order f (whole a) (flag n) = tt

none_of_equal : (v w : Value) → IsNoNumber (equal_values v w)
none_of_equal (flag a) (flag b) = tt
none_of_equal (whole a) (whole b) = tt
none_of_equal absent w = tt
none_of_equal (flag a) absent = tt
none_of_equal (flag a) (whole n) = tt
none_of_equal (whole a) absent = tt
none_of_equal (whole a) (flag n) = tt

none_of_not : (v : Value) → IsNoNumber (not_value v)
none_of_not absent = tt
none_of_not (flag b) = tt
none_of_not (whole n) = tt

none_of_two : (i : Instance) (p : _) (o : Operator) (a b : Expression) (v w : Value) → sort_of i (binary p o a b) ≡ Flags → IsNoNumber (apply o v w)
none_of_two i p Implies a b v w e = none_of_flags _ v w
none_of_two i p Or a b v w e = none_of_flags _ v w
none_of_two i p Xor a b v w e = none_of_flags _ v w
none_of_two i p And a b v w e = none_of_flags _ v w
none_of_two i p Less a b v w e = none_of_order _ v w
none_of_two i p AtMost a b v w e = none_of_order _ v w
none_of_two i p Equal a b v w e = none_of_equal v w
none_of_two i p Differs a b v w e = none_of_not (equal_values v w)
none_of_two i p AtLeast a b v w e = none_of_order _ v w
none_of_two i p More a b v w e = none_of_order _ v w
none_of_two i p Add a b v w e = absurd (no_number (sym e))
none_of_two i p Sub a b v w e = absurd (no_number (sym e))
none_of_two i p Mul a b v w e = absurd (no_number (sym e))
none_of_two i p Div a b v w e = absurd (no_number (sym e))
none_of_two i p Mod a b v w e = absurd (no_number (sym e))

none_of_one : (b : Bool) (v w : Value) → IsNoNumber v → IsNoNumber w → IsNoNumber (cond b v w)
none_of_one true v w h k = h
none_of_one false v w h k = k

none_of_choice : (u v w : Value) → IsNoNumber v → IsNoNumber w → IsNoNumber (choose u v w)
none_of_choice absent v w h k = tt
none_of_choice (flag b) v w h k = none_of_one b v w h k
none_of_choice (whole n) v w h k = tt

none_of_constant : (o : Option Value) (on : Instants) (x : Name) → ((v : Value) → o ≡ Some v → IsNoNumber v) →
    IsNoNumber (constant_or o on (entry empty_frame x) 0)
none_of_constant None on x h = tt
none_of_constant (Some v) on x h = none_of_one (on 0) v absent (h v refl) tt

module _ (i : Instance) (k : PureConstants i) where
  abbrev alone : Scene
  alone = record { place = instance no_component (constants_of i) no_instances; frame = empty_frame; beat = λ t. true; modes = [] }

  -- without a frame, too, an expression without integers is worth no number at first
  none_alone : (e : Expression) (c : Clock) → Pure i e → IsNoNumber (value alone c e 0)
  none_alone (truth p b) c h = none_of_one (is_on alone c 0) (flag b) absent tt tt
  none_alone (number p n) c h = absurd h
  none_alone (name p x) c h = none_of_constant (lookup (bytes_eq x) (constants_of i)) (is_on alone c) x (λ v e. k x v e h)
  none_alone (negation p a) c h = none_of_one (is_on alone c 0) (not_value (value alone c a 0)) absent (none_of_not (value alone c a 0)) tt
  none_alone (minus p a) c h = absurd h
  none_alone (pre p j a) c h = none_of_one (is_on alone c 0) absent absent tt tt
  none_alone (arrow p j a b) c h = none_of_one (is_on alone c 0) (value alone c a 0) absent (none_alone a c h.0) tt
  none_alone (binary p o a b) c h =
      none_of_one (is_on alone c 0) (apply o (value alone c a 0) (value alone c b 0)) absent
      (none_of_two i p o a b (value alone c a 0) (value alone c b 0) h.0) tt
  none_alone (choice p a b d) c h =
      none_of_one (is_on alone c 0) (choose (value alone c a 0) (value alone c b 0) (value alone c d 0)) absent
      (none_of_choice (value alone c a 0) (value alone c b 0) (value alone c d 0) (none_alone b c h.1) (none_alone d c h.2)) tt
  none_alone (sampled p a q x) c h = tt
  none_alone (merged p x a b) c h = tt
  none_alone (call p zero f as_) c h = tt
  none_alone (call p (suc j) f as_) c h = tt
  none_alone (condact p zero a f as_ ds) c h = tt
  none_alone (condact p (suc j) a f as_ ds) c h = tt
  none_alone (mode_name p d m) c h = tt

  pub none_of_value : (e : Expression) → Pure i e → IsNoNumber (constant_value (constants_of i) e)
  none_of_value e h = none_alone e base h

pub good_fixed : (v : Value) → IsNoNumber v → GoodPart (fixed v)
good_fixed absent h = tt
good_fixed (flag b) h = tt
good_fixed (whole n) h = absurd h

-- ---- terms of expressions

abbrev pub GoodModes : Known Formula → Type 0
GoodModes ms = AllByRecursion (λ m. Good m.1) ms

abbrev pub AreFlags : List Variable → Type 0
AreFlags vs = AllByRecursion (λ v. v.sort ≡ Flags) vs

module _ (g : Stage) (constants : PureConstants g.place) (outs : (k : ℕ) → AreFlags (outputs_at g k)) (modes : GoodModes g.modes) where
  abbrev i : Instance
  i = g.place

  present_good : (m : ℕ) (c : Clock) → Good (present_within m g c)
  present_good zero base = tt
  present_good (suc m) base = tt
  present_good zero (sampled_by b x) = tt
  present_good (suc m) (sampled_by true x) = tt
  present_good (suc m) (sampled_by false x) = (present_good m (clock_of (component_of i) x), tt)

  pub presence_good : (c : Clock) → Good (present g c)
  presence_good c = present_good _ c

  outputs_good : (k : ℕ) (vs : List Variable) → AreFlags vs → GoodParts (map (output_part g k) vs)
  outputs_good k [] a = tt
  outputs_good k (v ∷ vs) a = (good_variable false v.sort _ a.0, outputs_good k vs a.1)

  latests_good : (k : ℕ) (vs : List Variable) → AreFlags vs → GoodParts (map (latest_part g k) vs)
  latests_good k [] a = tt
  latests_good k (v ∷ vs) a =
      (good_choice _ _ _ tt (good_variable false v.sort _ a.0) (good_variable false v.sort _ a.0), latests_good k vs a.1)

  mode_good : (key : Key) (ms : Known Formula) → GoodModes ms → Good (unwrap_or (lookup (mode_key key) ms) (t.truth false))
  mode_good key [] a = tt
  mode_good key (x ∷ ms) a = go (mode_key key x.0) a.0 (mode_good key ms a.1)
    where
      go : (b : Bool) → Good x.1 → Good (unwrap_or (lookup (mode_key key) ms) (t.truth false)) →
          Good (unwrap_or (cond b (Some x.1) (lookup (mode_key key) ms)) (t.truth false))
      go true h r = h
      go false h r = r

  constant_good : (e : Expression) (q : Part) → Pure i e → GoodPart q → GoodPart (or_constant g e q)
  constant_good e q h r = go (is_constant (constants_of i) e)
    where
      go : (b : Bool) → GoodPart (cond b (fixed (constant_value (constants_of g.place) e)) q)
      go true = good_fixed (constant_value (constants_of g.place) e) (none_of_value g.place constants e h)
      go false = r

  two_good : (p : _) (o : Operator) (a b : Expression) (q r : Part) → sort_of i (binary p o a b) ≡ Flags → GoodPart q → GoodPart r →
      GoodPart (binary_part g o a b q r)
  two_good p Implies a b q r e h k = good_of_formulas _ (λ x y u v. (u, v)) q r h k
  two_good p Or a b q r e h k = good_of_formulas _ (λ x y u v. (u, v)) q r h k
  two_good p Xor a b q r e h k = good_of_formulas _ (λ x y u v. (u, v)) q r h k
  two_good p And a b q r e h k = good_of_formulas _ (λ x y u v. (u, v)) q r h k
  two_good p Less a b q r e h k = good_of_order _ q r h k
  two_good p AtMost a b q r e h k = good_of_order _ q r h k
  two_good p Equal a b q r e h k = good_equal q r h k
  two_good p Differs a b q r e h k = good_equal q r h k
  two_good p AtLeast a b q r e h k = good_of_order _ q r h k
  two_good p More a b q r e h k = good_of_order _ q r h k
  two_good p Add a b q r e h k = absurd (no_number (sym e))
  two_good p Sub a b q r e h k = absurd (no_number (sym e))
  two_good p Mul a b q r e h k = absurd (no_number (sym e))
  two_good p Div a b q r e h k = absurd (no_number (sym e))
  two_good p Mod a b q r e h k = absurd (no_number (sym e))

  pub term_good : (e : Expression) → Pure g.place e → GoodPart (term_of g e)
  term_good (truth p b) h = tt
  term_good (number p n) h = absurd h
  term_good (name p x) h = constant_good (name p x) _ h (good_variable false (sort_of_name i x) _ h)
  term_good (negation p a) h = constant_good (negation p a) _ h (good_not (term_of g a) (term_good a h))
  term_good (minus p a) h = absurd h
  term_good (pre p k a) h = good_variable false (sort_of i a) _ h.0
  term_good (arrow p k a b) h = good_choice _ (term_of g a) (term_of g b) tt (term_good a h.0) (term_good b h.1)
  term_good (binary p o a b) h =
      constant_good (binary p o a b) _ h (two_good p o a b (term_of g a) (term_of g b) h.0 (term_good a h.1) (term_good b h.2))
  term_good (choice p a b d) h =
      constant_good (choice p a b d) _ h
      (good_choice _ (term_of g b) (term_of g d) (good_formula (term_of g a) (term_good a h.0)) (term_good b h.1) (term_good d h.2))
  term_good (sampled p a q x) h = term_good a h
  term_good (merged p x a b) h = good_choice _ (term_of g a) (term_of g b) tt (term_good a h.0) (term_good b h.1)
  term_good (call p k f as_) h = good_head _ (outputs_good k (outputs_at g k) (outs k))
  term_good (condact p k a f as_ ds) h = good_head _ (latests_good k (outputs_at g k) (outs k))
  term_good (mode_name p d x) h = mode_good (option_to_list (option_map text_of d), x.text) g.modes modes

  pub formula_good : (e : Expression) → Pure g.place e → Good (formula g e)
  formula_good e h = good_formula (term_of g e) (term_good e h)

  pub right_good : (e : Expression) → Pure g.place e → GoodParts (right_terms g e)
  right_good (call p k f as_) h = outputs_good k (outputs_at g k) (outs k)
  right_good (condact p k a f as_ ds) h = latests_good k (outputs_at g k) (outs k)
  right_good (truth p b) h = (term_good (truth p b) h, tt)
  right_good (number p b) h = absurd h
  right_good (name p b) h = (term_good (name p b) h, tt)
  right_good (negation p b) h = (term_good (negation p b) h, tt)
  right_good (minus p b) h = absurd h
  right_good (pre p k b) h = (term_good (pre p k b) h, tt)
  right_good (arrow p k a b) h = (term_good (arrow p k a b) h, tt)
  right_good (binary p o a b) h = (term_good (binary p o a b) h, tt)
  right_good (choice p a b d) h = (term_good (choice p a b d) h, tt)
  right_good (sampled p a q x) h = (term_good (sampled p a q x) h, tt)
  right_good (merged p x a b) h = (term_good (merged p x a b) h, tt)
  right_good (mode_name p d x) h = (term_good (mode_name p d x) h, tt)
