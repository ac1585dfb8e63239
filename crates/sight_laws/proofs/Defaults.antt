-- The defaults that are known of calls are what the translation gives their outputs at first.
use Rattle.std.proofs.Common.{◌≡◌, ℕ, suc, ◌+◌, List, [], ◌∷◌, ◌++◌, map, flat_map, refl, sym, ap, ◌∙◌, arith}
use Rattle.std.specs.List.{AllByRecursion}
use Rattle.lus_tree.specs.Tree.{Name, Expression, Component, Program}
use Rattle.lus_meaning.specs.Occurrences.{gathered}
use Rattle.lus_meaning.specs.Program.{all_sites, constant_value, import_site, site_in, constants_in, instance_of, instances_with}
use Rattle.lus_meaning.specs.Scene.{Manner, plain, while_true, as_import, Site, Instance, instance, call_instance, calls_of, component_of, constants_of, contract_statements, instance_at}
use Rattle.lus_meaning.specs.Value.{Value}
use Rattle.lus_limits.specs.Instances.{callee, instance_called_so}
use Rattle.lus_limits.proofs.Instances.{component_called, made_of_callees}
use Rattle.lus_layouts.specs.declared.placing.CallSlots.{CallSlots}
use Rattle.lus_layouts.specs.Layouts.{layout_of}
use Rattle.path_laws.proofs.Numbers.{CountedFrom, in_order_counted}
use Rattle.rule_laws.proofs.Places.{numbered, sites_counted}
use Rattle.sys_meaning.specs.Defaults.{default_of}
use Rattle.steady_laws.specs.Laws.{DefaultsInOrder, FoldedIsKnown, SitesAreSteady}
use Rattle.steady_laws.specs.Steady.{HasDefaults, IsSteadyDefault, IsSteadySite}
use Rattle.sys_tables.specs.Tabled.{Linked, all_linked, bare, constants_known, linked, small_value, value_of}
use Rattle.sight_laws.specs.Sights.{ConstantsAreKnown, DefaultsAreKnown, HasItsDefaults}

-- where calls are numbered on, the instance with a call's number is that of its callee
module _ (p : Program) (i : Instance) where
  placed_so : (ss : List Site) (j : ℕ) → CountedFrom (λ (s : Site). s.number) (suc j) ss
      → ((k : ℕ) → instance_at (calls_of i) (j + k) ≡ instance_at (instances_with (instance_called_so p) ss) k)
      → AllByRecursion (λ (s : Site). component_of (call_instance i s.number) ≡ callee p s.callee) ss
  placed_so [] j c h = tt
  placed_so (s ∷ ss) j c h = (
    ap (λ k. component_of (call_instance i k)) c.0
        ∙ ap (λ k. component_of (instance_at (calls_of i) k)) (omega arith)
        ∙ ap component_of (h 0) ∙ component_called p (callee p s.callee),
    placed_so ss (suc j) c.1 (λ k. ap (instance_at (calls_of i)) (omega arith) ∙ h (suc k)),
  )

values_known : FoldedIsKnown → (cs : List (Name × Value)) (ds : List Expression) → AllByRecursion (IsSteadyDefault cs) ds
    → map (small_value cs) ds ≡ map (constant_value cs) ds
values_known f cs [] a = refl
values_known f cs (d ∷ ds) a =
    rw (ap value_of (f (bare cs) [] cs (λ x. refl) d a.0.steady a.0.constant), values_known f cs ds a.1) refl

module _ (p : Program) (n : Component) (known : constants_known p n ≡ constants_in p n)
    (constants : constants_of (instance_of p n) ≡ constants_in p n) (f : FoldedIsKnown) where
  defaults_so : (s : Site) → IsSteadySite (constants_in p n) s → map (small_value (constants_known p n)) s.defaults
      ≡ map (constant_value (constants_of (instance_of p n))) s.defaults
  defaults_so s a =
      ap (λ cs. map (small_value cs) s.defaults) known ∙ values_known f (constants_in p n) s.defaults a.defaults
      ∙ ap (λ cs. map (constant_value cs) s.defaults) (sym constants)

  one_so : (s : Site) (q : CallSlots) (m : Manner) → IsSteadySite (constants_in p n) s
      → component_of (call_instance (instance_of p n) s.number) ≡ callee p s.callee → HasDefaults (instance_of p n) s m
      → HasItsDefaults p n (linked p n s q) m
  one_so s q plain a e d = tt
  one_so s q (while_true b) a e d =
      defaults_so s a ∙ sym d ∙ ap (λ (k : Component). map (λ v. default_of (instance_of p n) s.number v.name.text) k.outputs) e
  one_so s q (as_import xs) a e d = tt

  all_so : (ss : List Site) (qs : List CallSlots) → AllByRecursion (IsSteadySite (constants_in p n)) ss
      → AllByRecursion (λ (s : Site). component_of (call_instance (instance_of p n) s.number) ≡ callee p s.callee) ss
      → AllByRecursion (λ (s : Site). HasDefaults (instance_of p n) s s.manner) ss
      → AllByRecursion (λ (l : Linked). HasItsDefaults p n l l.site.manner) (all_linked p n ss qs)
  all_so [] [] a e d = tt
  all_so [] (q ∷ qs) a e d = tt
  all_so (s ∷ ss) [] a e d = tt
  all_so (s ∷ ss) (q ∷ qs) a e d = (one_so s q s.manner a.0 e.0 d.0, all_so ss qs a.1 e.1 d.1)

pub defaults_known_so : ConstantsAreKnown → FoldedIsKnown → SitesAreSteady → DefaultsInOrder → DefaultsAreKnown
defaults_known_so known f steady defaults p c n i =
    all_so p n (known p c n i) (ap constants_of made) f (all_sites n) (layout_of p n).calls (steady p c n i)
    (placed_so p (instance_of p n) (all_sites n) 0 (in_order_counted (λ (s : Site). s.number) (gathered site_in n ++ flat_map import_site (contract_statements n)) (sites_counted n (numbered p c.grammatical n i)))
    (λ k. ap (instance_at (calls_of (instance_of p n))) (omega arith) ∙ ap (λ j. instance_at (calls_of j) k) made)) (defaults p c n i)
  where
    made : instance_of p n ≡ instance n (constants_in p n) (instances_with (instance_called_so p) (all_sites n))
    made = made_of_callees p c n i
