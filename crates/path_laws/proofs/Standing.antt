-- Each expression of a checked declaration stands on the clock of its place, as the translation asks.
use Rattle.std.proofs.Common.{option_map, ◌≡◌, ℕ, zero, suc, pred, ◌<◌, ◌≤◌, Bool, true, false, cond, ◌||◌, List, [], ◌∷◌, map, length, Option, Some, None, refl, sym, ap, ◌∙◌, subst, arith}
use Rattle.std.specs.Prelude.{option_to_list}
use Rattle.std.specs.List.{AllByRecursion}
use Rattle.std.specs.Map.{lookup}
use Rattle.std.specs.Str.{bytes_eq}
use Rattle.std.proofs.Math.Logic.{◌⊎◌, inl, inr}
use Rattle.std.proofs.lemmas.Bool.{false≢true}
use Rattle.std.proofs.lemmas.Option.{none-some}
use Rattle.lus_tree.specs.declared.expression.Operator.{Operator}
use Rattle.lus_tree.specs.declared.expression.Operator.TheVariants.{Implies, Or, Xor, And, Less, AtMost, Equal, Differs, AtLeast, More, Add, Sub, Mul, Div, Mod}
use Rattle.lus_tree.specs.Tree.{Name, text_of, Expression, Expressions, truth, number, name, negation, minus, pre, arrow, binary, choice, sampled, merged, call, condact, mode_name, no_more, more, Variable, ContractStatement, assume, guarantee, ghost_variable, constant, mode, «import», Component}
use Rattle.lus_meaning.specs.Value.{Value, has_sort}
use Rattle.lus_meaning.specs.Scene.{Clock, base, sampled_by, plain, while_true, Site, Instance, Instances, instance, no_instances, with_instance, component_of, constants_of, calls_of, outputs_of, call_instance, clock_from, clock_of, contract_statements}
use Rattle.lus_meaning.specs.Contract.{Terms, terms, terms_after}
use Rattle.lus_meaning.specs.Program.{listed, constant_value}
use Rattle.lus_meaning.specs.Run.{sort_of, first_sort}
use Rattle.lus_meaning.specs.Depends.{named_in}
use Rattle.lus_meaning.specs.WellMade.{AreDistinct}
use Rattle.lus_meaning.specs.Occurrences.{Standing, within, before, moved, Occurrence, memory_in, start_in}
use Rattle.lus_meaning.specs.ClockFaults.{name_clock}
use Rattle.lus_meaning.proofs.EachPart.{Each, EachAmong}
use Rattle.lus_meaning.proofs.Exists.{self_bytes}
use Rattle.lus_meaning.proofs.Lists.{all_from_both}
use Rattle.rule_laws.specs.Laws.{site_at}
use Rattle.rule_laws.specs.Fitting as fitting
use Rattle.rule_laws.specs.Fitting.{sorts_of, is_fixed, has_key, FitsThere, OnBase, NotEmpty, IsStreamOn}
use Rattle.rule_laws.specs.Declarations.{StreamFits}
use Rattle.rule_laws.proofs.Lists.{each_other}
use Rattle.rule_laws.proofs.Truths.{same_some}
use Rattle.clock_laws.proofs.Walk.{at_whole}
use Rattle.sys_meaning.specs.Defaults.{is_constant, site_of, default_among, default_of}
use Rattle.sys_meaning.specs.Defaults as defaults
use Rattle.sys_meaning.specs.Slot.{memory_of, start_of}
use Rattle.sys_meaning.specs.Items.{Key}
use Rattle.sys_meaning.specs.WellTyped.{IsKnown, count_of, NameFits, HasConstant, OutputFits, IsCall, DefaultsFit, Stands}
use Rattle.path_laws.proofs.Chains.{clock_is, is_declared_name, name_on}

-- ---- constants

pub fixed_constant : (cs : List (Name × Value)) (e : Expression) → is_fixed cs e ≡ is_constant cs e
fixed_constant cs (truth p b) = refl
fixed_constant cs (number p n) = refl
fixed_constant cs (name p x) = refl
fixed_constant cs (negation p a) = fixed_constant cs a
fixed_constant cs (minus p a) = fixed_constant cs a
fixed_constant cs (binary p o a b) = rw (fixed_constant cs a, fixed_constant cs b) refl
fixed_constant cs (choice p a b d) = rw (fixed_constant cs a, fixed_constant cs b, fixed_constant cs d) refl
fixed_constant cs (pre p k a) = refl
fixed_constant cs (arrow p k a b) = refl
fixed_constant cs (sampled p a b x) = refl
fixed_constant cs (merged p x a b) = refl
fixed_constant cs (call p k f as_) = refl
fixed_constant cs (condact p k a f as_ ds) = refl
fixed_constant cs (mode_name p d m) = refl

-- ---- the sites of an instance

pub site_there : (is : Instances) (k : ℕ) (s : Site) → site_at is k ≡ Some s → (defaults.site_at is k ≡ s) × (k < count_of is)
site_there no_instances k s e = absurd (none-some s e)
site_there (with_instance c i is) zero s e = (same_some e, omega arith)
site_there (with_instance c i is) (suc k) s e =
    let r : (defaults.site_at is k ≡ s) × (k < count_of is) = site_there is k s e in
    let l : k < count_of is = r.1 in
    (r.0, omega (arith, l))

not_empty : {A : Type 0} (xs : List A) → NotEmpty xs → 0 < length xs
not_empty [] h = absurd h
not_empty (x ∷ xs) h = omega arith

-- ---- an occurrence

-- what is known of an occurrence of a checked declaration
pub record Known (i : Instance) (o : Occurrence) : Type 0 where
  pub fits : FitsThere i o
  pub memory : AllByRecursion (λ m. memory_of (component_of i) m.number ≡ Some m) (memory_in o.standing o.expression)
  pub start : AllByRecursion (λ a. start_of (component_of i) a.number ≡ Some a) (start_in o.standing o.expression)
  pub typed : is_fixed (constants_of i) o.expression ≡ true →
      has_sort (sort_of i o.expression) (constant_value (constants_of i) o.expression) ≡ true

-- what is known of the outputs of a call
pub record OutputsKnown (k : Instance) : Type 0 where
  pub distinct : AreDistinct (map (λ v. v.name.text) (component_of k).outputs)
  pub streams : AllByRecursion (StreamFits k) (component_of k).outputs

module _ (i : Instance)
    (callees : (s : Site) → 1 ≤ s.number → site_at (calls_of i) (pred s.number) ≡ Some s → OutputsKnown (call_instance i s.number)) where
  abbrev n : Component
  n = component_of i

  abbrev cs : List (Name × Value)
  cs = constants_of i

  name_fits : (o : Option Value) (c : Clock) (x : Name) → fitting.NameFits i o c x → NameFits i (IsKnown i) o c x
  name_fits None c x h = (is_declared_name (component_of i) x c h, sym (clock_is (component_of i) x c h))
  name_fits (Some v) c x h = h

  either : (a b : Bool) → (a || b) ≡ true → (a ≡ true) ⊎ (b ≡ true)
  either true b e = inl refl
  either false b e = inr e

  constant_part : (o : Operator) (a b : Expression) → fitting.HasConstant cs o a b → HasConstant i (IsKnown i) o a b
  constant_part Mul a b h = either (is_constant cs a) (is_constant cs b) (sym (rw (fixed_constant cs a, fixed_constant cs b) refl) ∙ h)
  constant_part Div a b h = sym (fixed_constant cs b) ∙ h
  constant_part Mod a b h = sym (fixed_constant cs b) ∙ h
  constant_part Implies a b h = tt
  constant_part Or a b h = tt
  constant_part Xor a b h = tt
  constant_part And a b h = tt
  constant_part Less a b h = tt
  constant_part AtMost a b h = tt
  constant_part Equal a b h = tt
  constant_part Differs a b h = tt
  constant_part AtLeast a b h = tt
  constant_part More a b h = tt
  constant_part Add a b h = tt
  constant_part Sub a b h = tt

  -- ---- calls

  output_fits : (k : ℕ) (v : Variable) → v.clock ≡ None → StreamFits (call_instance i k) v → OutputFits i (IsKnown i) k v
  output_fits k v o s =
      let on_base : name_clock (component_of (call_instance i k)) v.name.text ≡ Some base =
      s.name.clock ∙ ap (λ c. Some (clock_from c)) o in (
        o,
        s.name.sort,
        is_declared_name (component_of (call_instance i k)) v.name.text base on_base,
        s.name.stream,
        sym (clock_is (component_of (call_instance i k)) v.name.text base on_base),
      )

  pub call_at : (s : Site) → 1 ≤ s.number → site_at (calls_of i) (pred s.number) ≡ Some s →
      OnBase (component_of (call_instance i s.number)).outputs → IsCall i (IsKnown i) s.number
  call_at s l e o =
      let q : (site_of i s.number ≡ s) × (pred s.number < count_of (calls_of i)) = site_there (calls_of i) (pred s.number) s e in
      record {
        number = ap (λ (z : Site). z.number) q.0;
        counted = omega (arith, l);
        listed = q.1;
        named = all_from_both (λ v. v.clock ≡ None) (StreamFits (call_instance i s.number)) (OutputFits i (IsKnown i) s.number)
            (output_fits s.number) (component_of (call_instance i s.number)).outputs o (callees s l e).streams;
      }

  pub is_call : (s : Site) → fitting.CallFits i s → IsCall i (IsKnown i) s.number
  is_call s f = call_at s f.number f.site f.on_base

  site_is_there : (s : Site) → fitting.CallFits i s → site_of i s.number ≡ s
  site_is_there s f = (site_there (calls_of i) (pred s.number) s f.site).0

  -- the defaults of the outputs, each by its name
  module _ (k : ℕ) where
    abbrev Default : Expression → Type 0
    Default d = (is_constant cs d ≡ true) × (has_sort (sort_of i d) (constant_value cs d) ≡ true)

    abbrev AllDefaults : Expressions → Type 0
    AllDefaults no_more = Unit {0}
    AllDefaults (more d ds) = Default d × AllDefaults ds

    all_defaults : (vs : List Variable) (ds : Expressions) → AreDistinct (map (λ v. v.name.text) vs) →
        map (sort_of i) (listed ds) ≡ sorts_of vs → AllDefaults ds →
        AllByRecursion (λ v. default_of i k v.name.text ≡ default_among cs (map (λ w. w.name.text) vs) (listed ds) v.name.text) vs →
        DefaultsFit i (IsKnown i) k vs ds
    all_defaults [] no_more d e a g = tt
    all_defaults [] (more x ds) d e a g = absurd (none e)
      where
        none : {A : Type 0} {y : A} {ys : List A} → y ∷ ys ≡ [] → ⊥
        none e = false≢true (ap (λ l. is_empty l) e)
          where
            is_empty : {A : Type 0} → List A → Bool
            is_empty [] = true
            is_empty (y ∷ ys) = false
    all_defaults (v ∷ vs) no_more d e a g = absurd (none (sym e))
      where
        none : {A : Type 0} {y : A} {ys : List A} → y ∷ ys ≡ [] → ⊥
        none e = false≢true (ap (λ l. is_empty l) e)
          where
            is_empty : {A : Type 0} → List A → Bool
            is_empty [] = true
            is_empty (y ∷ ys) = false
    all_defaults (v ∷ vs) (more x ds) d e a g = (
      g.0 ∙ rw (self_bytes v.name.text) refl,
      a.0.0,
      subst (λ q. has_sort q (constant_value cs x) ≡ true) (head_same e) a.0.1,
      all_defaults vs ds d.1 (tail_same e) a.1
          (all_from_both (λ w. bytes_eq w.name.text v.name.text ≡ false)
          (λ w. default_of i k w.name.text ≡ cond (bytes_eq w.name.text v.name.text) (constant_value cs x)
          (default_among cs (map (λ z. z.name.text) vs) (listed ds) w.name.text))
          (λ w. default_of i k w.name.text ≡ default_among cs (map (λ z. z.name.text) vs) (listed ds) w.name.text)
          (λ w o h. h ∙ rw o refl) vs (others v vs d.0) g.1),
    )
      where
        head_or : {A : Type 0} → A → List A → A
        head_or x [] = x
        head_or x (y ∷ ys) = y

        tail_of : {A : Type 0} → List A → List A
        tail_of [] = []
        tail_of (y ∷ ys) = ys

        head_same : {A : Type 0} {x y : A} {xs ys : List A} → x ∷ xs ≡ y ∷ ys → x ≡ y
        head_same {x = x} e = ap (head_or x) e

        tail_same : {A : Type 0} {x y : A} {xs ys : List A} → x ∷ xs ≡ y ∷ ys → xs ≡ ys
        tail_same e = ap tail_of e

        others : (v : Variable) (ws : List Variable) → named_in v.name.text (map (λ w. w.name.text) ws) ≡ false →
            AllByRecursion (λ w. bytes_eq w.name.text v.name.text ≡ false) ws
        others v ws h = back ws (each_other v.name.text (map (λ w. w.name.text) ws) h)
          where
            back : (us : List Variable) → AllByRecursion (λ z. bytes_eq z v.name.text ≡ false) (map (λ w. w.name.text) us) →
                AllByRecursion (λ w. bytes_eq w.name.text v.name.text ≡ false) us
            back [] a = tt
            back (u ∷ us) a = (a.0, back us a.1)

    reflexive : (f : Variable → Value) (g : Variable → Value) → ((v : Variable) → f v ≡ g v) → (vs : List Variable) →
        AllByRecursion (λ v. f v ≡ g v) vs
    reflexive f g h [] = tt
    reflexive f g h (v ∷ vs) = (h v, reflexive f g h vs)

  -- constant expressions among those of a list
  defaults_typed : (t : Standing) (ds : Expressions) → EachAmong (Known i) n t ds →
      AllByRecursion (λ d. is_fixed (constants_of i) d ≡ true) (listed ds) → AllDefaults 0 ds
  defaults_typed t no_more a b = tt
  defaults_typed t (more d ds) a b =
      ((sym (fixed_constant cs d) ∙ b.0, (at_whole (Known i) n t d a.0).typed b.0), defaults_typed t ds a.1 b.1)

  -- ---- expressions

  pub stands : (t : Standing) (e : Expression) → Each (Known i) (component_of i) t e → Stands i (IsKnown i) t.clock e
  stands t (truth p b) a = tt
  stands t (number p b) a = tt
  stands t (name p x) a = name_fits (lookup (bytes_eq x) (constants_of i)) t.clock x a.fits
  stands t (negation p e) a = (a.0.fits, stands (within t) e a.1)
  stands t (minus p e) a = (a.0.fits, stands (within t) e a.1)
  stands t (pre p k e) a = (a.0.memory.0, stands (before t) e a.1)
  stands t (arrow p k d e) a = (a.0.start.0, a.0.fits, stands (within t) d a.1, stands (within t) e a.2)
  stands t (binary p o d e) a =
      (a.0.fits.0, a.0.fits.1, constant_part o d e a.0.fits.2, stands (within t) d a.1, stands (within t) e a.2)
  stands t (choice p b d e) a = (a.0.fits.0, a.0.fits.1, stands (within t) b a.1, stands (within t) d a.2, stands (within t) e a.3)
  stands t (sampled p e q x) a =
      (a.0.fits.0, name_on i (IsKnown i) (clock_of n x.text) x.text _ a.0.fits.1, stands (moved (clock_of n x.text) t) e a.1)
  stands t (merged p x d e) a = (
    name_on i (IsKnown i) t.clock x.text _ a.0.fits.0,
    a.0.fits.0.sort,
    a.0.fits.1,
    stands (moved (sampled_by true x.text) t) d a.1,
    stands (moved (sampled_by false x.text) t) e a.2,
  )
  stands t (call p k f as_) a =
      let s : Site = record { number = k; callee = f.text; clock = t.clock; arguments = listed as_; defaults = []; manner = plain } in
      let fit : fitting.CallFits i s = a.0.fits in (
        record {
          call = is_call s fit;
          outputs = not_empty (component_of (call_instance i k)).outputs fit.outputs;
          clock = ap (λ (z : Site). z.clock) (site_is_there s fit);
          manner = ap (λ (z : Site). z.manner) (site_is_there s fit);
        },
        ap (λ (m : Component). first_sort m.outputs) fit.callee,
      )
  stands t (condact p k b f as_ ds) a =
      let s : Site = record {
        number = k;
        callee = f.text;
        clock = t.clock;
        arguments = listed as_;
        defaults = listed ds;
        manner = while_true b;
      } in
      let fit : fitting.CallFits i s = a.0.fits.0 in
      let vs : List Variable = (component_of (call_instance i k)).outputs in (
        record {
          call = is_call s fit;
          outputs = not_empty (component_of (call_instance i k)).outputs fit.outputs;
          clock = ap (λ (z : Site). z.clock) (site_is_there s fit);
          manner = ap (λ (z : Site). z.manner) (site_is_there s fit);
          defaults = all_defaults k vs ds (callees s fit.number fit.site).distinct a.0.fits.2
              (defaults_typed (within t) ds a.3 a.0.fits.3)
              (reflexive k (λ v. default_of i k v.name.text)
              (λ v. default_among cs (map (λ w. w.name.text) vs) (listed ds) v.name.text)
              (λ v. ap (λ (z : Site). default_among cs (outputs_of (call_instance i k)) z.defaults v.name.text) (site_is_there s fit)) vs);
        },
        a.0.fits.1,
        stands (within t) b a.1,
        ap (λ (m : Component). first_sort m.outputs) fit.callee,
      )
  stands t (mode_name p d m) a = (a.fits.0, a.fits.1)
