-- The defaults of calls are light constants, so they have no operation outside 128 bits.
use Rattle.std.proofs.Common.{◌≡◌, ℕ, zero, suc, pred, ◌<◌, true, List, [], ◌∷◌, ◌++◌, flat_map, sym, ◌∙◌, subst, arith}
use Rattle.std.specs.Prelude.{Contains}
use Rattle.std.specs.List.{AllByRecursion}
use Rattle.lus_tree.specs.Tree.{Expression, Expressions, truth, number, name, negation, minus, pre, arrow, binary, choice, sampled, merged, call, condact, mode_name, no_more, more, ContractStatement, assume, guarantee, ghost_variable, constant, mode, «import», Component, Program}
use Rattle.lus_meaning.specs.Frame.{Frame}
use Rattle.lus_meaning.specs.Scene.{Clock, Site, Instance, Instances, instance, no_instances, with_instance, component_of, constants_of, calls_of, contract_statements, is_on}
use Rattle.lus_meaning.specs.ClockFaults.{components}
use Rattle.lus_meaning.specs.Occurrences.{Standing, within, all_occurrences, gathered}
use Rattle.lus_meaning.specs.Program.{listed, site_in, import_site, all_sites}
use Rattle.lus_meaning.specs.Refusals.{IsChecked}
use Rattle.lus_meaning.specs.Scope.{greatest_weight}
use Rattle.lus_meaning.proofs.EachPart.{Each, EachAmong}
use Rattle.lus_meaning.proofs.InOrder.{in_order_all}
use Rattle.lus_meaning.proofs.Lists.{all_from, both_parts}
use Rattle.rule_laws.specs.Laws.{IsUnfolded, AreUnfolded}
use Rattle.rule_laws.specs.Fitting.{is_fixed}
use Rattle.rule_laws.proofs.Lists.{all_flat}
use Rattle.sys_meaning.specs.Defaults.{is_constant, site_at, site_of}
use Rattle.sys_meaning.specs.WellTyped.{IsKnown, Stands, count_of}
use Rattle.path_laws.proofs.Places.{stand}
use Rattle.path_laws.proofs.Standing.{Known, fixed_constant}
use Rattle.term_laws.proofs.Lights.{IsLight, Both, all_both}
use Rattle.term_laws.proofs.Weights.{LightAmong}
use Rattle.slot_values.specs.FrameRow.{numbering}
use Rattle.evaluation_laws.specs.Rows.{row_at, scene_there, numbers_there, modes_there}
use Rattle.order_laws.specs.Rows.{place_there}
use Rattle.within_laws.specs.Texts.{IsQuiet, EachQuiet}
use Rattle.within_laws.proofs.Constants.{constant_quiet}

-- a light constant, at its place
pub record IsDefault (i : Instance) (e : Expression) : Type 0 where
  pub clock : Clock
  pub stands : Stands i (IsKnown i) clock e
  pub light : IsLight i e
  pub fixed : is_constant (constants_of i) e ≡ true

abbrev pub HasDefaults : Instance → Site → Type 0
HasDefaults i s = AllByRecursion (IsDefault i) s.defaults

-- what holds of all sites holds of that of each call
pub at_call : (P : Site → Type 0) (p : Program) (ss : List Site) (is : Instances) → AreUnfolded p ss is → AllByRecursion P ss → (q : ℕ) → q < count_of is →
    P (site_at is q)
at_call P p ss no_instances u a q l = absurd (omega (arith, l))
at_call P p [] (with_instance z x is) u a q l = absurd u
at_call P p (s ∷ ss) (with_instance z x is) u a zero l = subst P (sym u.0) a.0
at_call P p (s ∷ ss) (with_instance z x is) u a (suc q) l = at_call P p ss is u.3 a.1 q (omega (arith, l))

module _ (p : Program) (c : IsChecked p) (i : Instance) (u : IsUnfolded p i) (j : Contains (components p) (component_of i)) where
  abbrev n : Component
  n = component_of i

  good_defaults : (t : Standing) (ds : Expressions) → EachAmong (Known i) n t ds → LightAmong i greatest_weight ds →
      AllByRecursion (λ d. is_fixed (constants_of i) d ≡ true) (listed ds) → AllByRecursion (IsDefault i) (listed ds)
  good_defaults t no_more k l f = tt
  good_defaults t (more d ds) k l f = (
    record { clock = t.clock; stands = stand p c i u j t d k.0; light = l.0; fixed = sym (fixed_constant (constants_of i) d) ∙ f.0 },
    good_defaults t ds k.1 l.1 f.1,
  )

  site_defaults : (t : Standing) (e : Expression) → Each (Known i) n t e → IsLight i e → AllByRecursion (HasDefaults i) (site_in t e)
  site_defaults t (condact q k b f as_ ds) a l = (good_defaults (within t) ds a.3 l.3 a.0.fits.3, tt)
  site_defaults t (call q k f as_) a l = (tt, tt)
  site_defaults t (truth q b) a l = tt
  site_defaults t (number q b) a l = tt
  site_defaults t (name q b) a l = tt
  site_defaults t (negation q b) a l = tt
  site_defaults t (minus q b) a l = tt
  site_defaults t (pre q k b) a l = tt
  site_defaults t (arrow q k b d) a l = tt
  site_defaults t (binary q k b d) a l = tt
  site_defaults t (choice q b d e) a l = tt
  site_defaults t (sampled q b d e) a l = tt
  site_defaults t (merged q b d e) a l = tt
  site_defaults t (mode_name q b d) a l = tt

  import_defaults : (cs : List ContractStatement) → AllByRecursion (HasDefaults i) (flat_map import_site cs)
  import_defaults [] = tt
  import_defaults (assume l ∷ cs) = import_defaults cs
  import_defaults (guarantee l ∷ cs) = import_defaults cs
  import_defaults (ghost_variable x e ∷ cs) = import_defaults cs
  import_defaults (constant x ∷ cs) = import_defaults cs
  import_defaults (mode m rs es ∷ cs) = import_defaults cs
  import_defaults («import» k x as_ xs ∷ cs) = (tt, import_defaults cs)

  pub all_defaults : AllByRecursion (HasDefaults i) (all_sites n)
  all_defaults =
      in_order_all (λ s. s.number) (HasDefaults i) (gathered site_in n ++ flat_map import_site (contract_statements n))
      (both_parts (HasDefaults i) (gathered site_in n) (flat_map import_site (contract_statements n))
      (all_flat (HasDefaults i) (λ o. site_in o.standing o.expression) (all_occurrences n)
      (all_from (Both p c i u j) (λ o. AllByRecursion (HasDefaults i) (site_in o.standing o.expression))
      (λ o a. site_defaults o.standing o.expression a.0 a.1) (all_occurrences n) (all_both p c i u j))) (import_defaults (contract_statements n)))

-- the sites of an instance are those of its calls
pub unfolded_sites : (p : Program) (i : Instance) → IsUnfolded p i → AreUnfolded p (all_sites (component_of i)) (calls_of i)
unfolded_sites p (instance d cs is) u = u.1

-- of the frame at the end of a way of calls
pub defaults_quiet : (p : Program) (c : IsChecked p) (i : Instance) (f : Frame) (t : ℕ) (w : List ℕ) → IsUnfolded p (place_there i f w) →
    Contains (components p) (component_of (place_there i f w)) → (k : ℕ) → pred k < count_of (calls_of (place_there i f w)) →
    EachQuiet i f t w (site_of (place_there i f w) k).clock (site_of (place_there i f w) k).defaults
defaults_quiet p c i f t w u j k l =
    all_from (IsDefault (place_there i f w)) (IsQuiet i f t w (site_of (place_there i f w) k).clock)
    (λ e a. constant_quiet (row_at i f t) (numbering (scene_there i f w) (numbers_there i w) (modes_there i f w))
    (is_on (scene_there i f w) (site_of (place_there i f w) k).clock t) a.clock e a.stands a.light a.fixed)
    (site_of (place_there i f w) k).defaults
    (at_call (HasDefaults (place_there i f w)) p (all_sites (component_of (place_there i f w))) (calls_of (place_there i f w))
    (unfolded_sites p (place_there i f w) u) (all_defaults p c (place_there i f w) u j) (pred k) l)
