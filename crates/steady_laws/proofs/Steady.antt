-- An expression that fits where it stands and is light is steady, and so is all that is read of it.
use Rattle.std.proofs.Common.{◌≡◌, ℕ, ◌≤◌, Bool, true, false, ◌&&◌, ◌||◌, List, [], ◌∷◌, map, refl, sym, ap, ◌∙◌, arith}
use Rattle.std.specs.List.{AllByRecursion}
use Rattle.std.proofs.Math.Logic.{◌⊎◌, inl, inr}
use Rattle.lus_tree.specs.declared.expression.Operator.{Operator}
use Rattle.lus_tree.specs.declared.expression.Operator.TheVariants.{Implies, Or, Xor, And, Less, AtMost, Equal, Differs, AtLeast, More, Add, Sub, Mul, Div, Mod}
use Rattle.lus_tree.specs.Tree.{Expression, Expressions, truth, number, name, negation, minus, pre, arrow, binary, choice, sampled, merged, call, condact, mode_name, no_more, more, Variable}
use Rattle.lus_meaning.specs.Value.{has_sort}
use Rattle.lus_meaning.specs.Scene.{sampled_by, Site, Instance, component_of, constants_of, call_instance, clock_of}
use Rattle.lus_meaning.specs.Program.{listed, site_in, constant_value}
use Rattle.lus_meaning.specs.Run.{sort_of}
use Rattle.lus_meaning.specs.Occurrences.{Standing, within, before, moved, Memory, memory_in}
use Rattle.lus_meaning.specs.Scope.{greatest_weight}
use Rattle.lus_meaning.proofs.EachPart.{Each, EachAmong}
use Rattle.lus_meaning.proofs.Typed.{has_as}
use Rattle.rule_laws.specs.Fitting as fitting
use Rattle.rule_laws.specs.Fitting.{is_fixed}
use Rattle.rule_laws.proofs.Truths.{both_true}
use Rattle.clock_laws.proofs.Walk.{at_whole}
use Rattle.path_laws.proofs.Standing.{fixed_constant, Known}
use Rattle.sys_meaning.specs.Defaults.{is_constant, default_of}
use Rattle.sys_meaning.specs.WellTyped.{IsKnown, DefaultsFit, Stands}
use Rattle.sys_parts.specs.Values.{tame}
use Rattle.sys_texts.specs.Laws.{HasConstant, IsSteady}
use Rattle.term_laws.proofs.Lights.{IsLight, value_within}
use Rattle.term_laws.proofs.Weights.{value_size, value_here, LightAmong}
use Rattle.steady_laws.specs.Steady.{IsSteadyDefault, IsSteadySite, HasDefaults}
use Rattle.steady_laws.proofs.Small.{small_number, small_within, tame_small, total, chosen}

le_trans : (a b c : ℕ) → a ≤ b → b ≤ c → a ≤ c
le_trans a b c h k = omega arith

module _ (i : Instance) where
  -- ---- one form

  either : (a b : Expression) → (c d : Bool) → is_constant (constants_of i) a ≡ c → is_constant (constants_of i) b ≡ d → (c || d) ≡ true →
      (is_constant (constants_of i) a ≡ true) ⊎ (is_constant (constants_of i) b ≡ true)
  either a b true d e h k = inl e
  either a b false d e h k = inr (h ∙ k)

  constant_part : (o : Operator) (a b : Expression) → fitting.HasConstant (constants_of i) o a b → HasConstant (constants_of i) o a b
  constant_part Mul a b h =
      either a b (is_fixed (constants_of i) a) (is_fixed (constants_of i) b) (sym (fixed_constant (constants_of i) a))
      (sym (fixed_constant (constants_of i) b)) h
  constant_part Div a b h = sym (fixed_constant (constants_of i) b) ∙ h
  constant_part Mod a b h = sym (fixed_constant (constants_of i) b) ∙ h
  constant_part Implies a b h = tt
  constant_part Or a b h = tt
  constant_part Xor a b h = tt
  constant_part And a b h = tt
  constant_part Less a b h = tt
  constant_part AtMost a b h = tt
  constant_part Equal a b h = tt
  constant_part Differs a b h = tt
  constant_part AtLeast a b h = tt
  constant_part More a b h = tt
  constant_part Add a b h = tt
  constant_part Sub a b h = tt

  -- a constant of its type
  typed : (t : Standing) (e : Expression) → Each (Known i) (component_of i) t e → is_constant (constants_of i) e ≡ true →
      has_sort (sort_of i e) (value_here i e) ≡ true
  typed t e a k = (at_whole (Known i) (component_of i) t e a).typed (fixed_constant (constants_of i) e ∙ k)

  -- a constant has a value of a size up to 2^63
  small_size : (t : Standing) (e : Expression) → Each (Known i) (component_of i) t e → IsLight i e → is_constant (constants_of i) e ≡ true →
      value_size (value_here i e) ≤ greatest_weight
  small_size t e a l k = value_within i e l (fixed_constant (constants_of i) e ∙ k) (typed t e a k)

  kept : (t : Standing) (e : Expression) → Each (Known i) (component_of i) t e → IsLight i e → is_constant (constants_of i) e ≡ true →
      tame (value_here i e) ≡ value_here i e
  kept t e a l k = tame_small (value_here i e) (small_within (value_here i e) (small_size t e a l k))

  -- ---- each expression

  pub steady : (t : Standing) (e : Expression) → Each (Known i) (component_of i) t e → IsLight i e → IsSteady (constants_of i) e
  steady t (truth p b) a l = tt
  steady t (number p n) a l = small_number n (l.0 refl)
  steady t (name p x) a l = tt
  steady t (negation p b) a l = steady (within t) b a.1 l.1
  steady t (minus p b) a l = ((λ k. kept t (minus p b) a l k), steady (within t) b a.1 l.1)
  steady t (pre p k b) a l = tt
  steady t (arrow p k b d) a l = (steady (within t) b a.1 l.1, steady (within t) d a.2 l.2)
  steady t (binary p o b d) a l = (
    constant_part o b d a.0.fits.2,
    (λ k. ap tame (total o (value_here i b) (value_here i d) l.0.1) ∙ kept t (binary p o b d) a l k),
    steady (within t) b a.1 l.1,
    steady (within t) d a.2 l.2,
  )
  steady t (choice p b d e) a l = (
    (λ k.
        let q = both_true (is_constant (constants_of i) b) (is_constant (constants_of i) d && is_constant (constants_of i) e) k in
        let r = both_true (is_constant (constants_of i) d) (is_constant (constants_of i) e) q.1 in
        chosen (sort_of i d) (value_here i b) (value_here i d) (value_here i e) (typed (within t) d a.2 r.0)
        (has_as (sort_of i e) (sort_of i d) (value_here i e) a.0.fits.1 (typed (within t) e a.3 r.1))),
    steady (within t) b a.1 l.1,
    steady (within t) d a.2 l.2,
    steady (within t) e a.3 l.3,
  )
  steady t (sampled p b q x) a l = steady (moved (clock_of (component_of i) x.text) t) b a.1 l.1
  steady t (merged p x b d) a l =
      (steady (moved (sampled_by true x.text) t) b a.1 l.1, steady (moved (sampled_by false x.text) t) d a.2 l.2)
  steady t (call p k f as_) a l = tt
  steady t (condact p k b f as_ ds) a l = tt
  steady t (mode_name p d m) a l = tt

  among : (t : Standing) (as_ : Expressions) → EachAmong (Known i) (component_of i) t as_ → LightAmong i greatest_weight as_ →
      AllByRecursion (IsSteady (constants_of i)) (listed as_)
  among t no_more a l = tt
  among t (more e as_) a l = (steady t e a.0 l.0, among t as_ a.1 l.1)

  -- ---- what is read of it

  pub memories_steady : (t : Standing) (e : Expression) → Each (Known i) (component_of i) t e → IsLight i e →
      AllByRecursion (λ (u : Memory). IsSteady (constants_of i) u.operand) (memory_in t e)
  memories_steady t (pre p k b) a l = (steady (before t) b a.1 l.1, tt)
  memories_steady t (truth p b) a l = tt
  memories_steady t (number p b) a l = tt
  memories_steady t (name p b) a l = tt
  memories_steady t (negation p b) a l = tt
  memories_steady t (minus p b) a l = tt
  memories_steady t (arrow p k b d) a l = tt
  memories_steady t (binary p k b d) a l = tt
  memories_steady t (choice p b d e) a l = tt
  memories_steady t (sampled p b d e) a l = tt
  memories_steady t (merged p b d e) a l = tt
  memories_steady t (call p k f as_) a l = tt
  memories_steady t (condact p k b f as_ ds) a l = tt
  memories_steady t (mode_name p b d) a l = tt

  one_default : (t : Standing) (d : Expression) → Each (Known i) (component_of i) t d → IsLight i d → is_fixed (constants_of i) d ≡ true →
      IsSteadyDefault (constants_of i) d
  one_default t d a l f =
      let k : is_constant (constants_of i) d ≡ true = sym (fixed_constant (constants_of i) d) ∙ f in
      record { steady = steady t d a l; constant = k; small = small_within (value_here i d) (small_size t d a l k) }

  defaults_steady : (t : Standing) (ds : Expressions) → EachAmong (Known i) (component_of i) t ds → LightAmong i greatest_weight ds →
      AllByRecursion (λ d. is_fixed (constants_of i) d ≡ true) (listed ds) → AllByRecursion (IsSteadyDefault (constants_of i)) (listed ds)
  defaults_steady t no_more a l f = tt
  defaults_steady t (more d ds) a l f = (one_default t d a.0 l.0 f.0, defaults_steady t ds a.1 l.1 f.1)

  pub sites_steady : (t : Standing) (e : Expression) → Each (Known i) (component_of i) t e → IsLight i e →
      AllByRecursion (IsSteadySite (constants_of i)) (site_in t e)
  sites_steady t (call p k f as_) a l = (record { arguments = among (within t) as_ a.1 l.1; manner = tt; defaults = tt }, tt)
  sites_steady t (condact p k b f as_ ds) a l = (
    record {
      arguments = among (within t) as_ a.2 l.2;
      manner = steady (within t) b a.1 l.1;
      defaults = defaults_steady (within t) ds a.3 l.3 a.0.fits.3;
    },
    tt,
  )
  sites_steady t (truth p b) a l = tt
  sites_steady t (number p b) a l = tt
  sites_steady t (name p b) a l = tt
  sites_steady t (negation p b) a l = tt
  sites_steady t (minus p b) a l = tt
  sites_steady t (pre p k b) a l = tt
  sites_steady t (arrow p k b d) a l = tt
  sites_steady t (binary p k b d) a l = tt
  sites_steady t (choice p b d e) a l = tt
  sites_steady t (sampled p b d e) a l = tt
  sites_steady t (merged p b d e) a l = tt
  sites_steady t (mode_name p b d) a l = tt

  -- ---- defaults

  values_in_order : (k : ℕ) (vs : List Variable) (ds : Expressions) → DefaultsFit i (IsKnown i) k vs ds →
      map (λ v. default_of i k v.name.text) vs ≡ map (constant_value (constants_of i)) (listed ds)
  values_in_order k [] no_more h = refl
  values_in_order k [] (more d ds) h = absurd h
  values_in_order k (v ∷ vs) no_more h = absurd h
  values_in_order k (v ∷ vs) (more d ds) h =
      ap (λ w. w ∷ map (λ v. default_of i k v.name.text) vs) h.0
      ∙ ap (λ ws. constant_value (constants_of i) d ∷ ws) (values_in_order k vs ds h.3)

  pub defaults_there : (t : Standing) (e : Expression) → Stands i (IsKnown i) t.clock e →
      AllByRecursion (λ (s : Site). HasDefaults i s s.manner) (site_in t e)
  defaults_there t (condact p k b f as_ ds) h =
      (values_in_order k (component_of (call_instance i k)).outputs ds h.0.defaults, tt)
  defaults_there t (call p k f as_) h = (tt, tt)
  defaults_there t (truth p b) h = tt
  defaults_there t (number p b) h = tt
  defaults_there t (name p b) h = tt
  defaults_there t (negation p b) h = tt
  defaults_there t (minus p b) h = tt
  defaults_there t (pre p k b) h = tt
  defaults_there t (arrow p k b d) h = tt
  defaults_there t (binary p k b d) h = tt
  defaults_there t (choice p b d e) h = tt
  defaults_there t (sampled p b d e) h = tt
  defaults_there t (merged p b d e) h = tt
  defaults_there t (mode_name p b d) h = tt
