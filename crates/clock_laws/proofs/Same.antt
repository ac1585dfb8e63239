-- Two instances of a declaration that are unfolded to their end are one.
use Rattle.std.proofs.Common.{◌≡◌, List, [], ◌∷◌, Option, Some, unwrap_or, refl, sym, ap, ◌∙◌, subst}
use Rattle.lus_tree.specs.Tree.{Component, Program}
use Rattle.lus_meaning.specs.Scene.{Site, Instance, Instances, instance, no_instances, with_instance, component_of, no_component}
use Rattle.lus_meaning.specs.Program.{all_sites, constants_in}
use Rattle.rule_laws.specs.Laws.{IsUnfolded, AreUnfolded}

pub some_same : (n m : Component) → Some n ≡ Some m → n ≡ m
some_same n m e = ap (λ (o : Option Component). unwrap_or o no_component) e

mutual
  pub same_instance : (p : Program) (i j : Instance) → IsUnfolded p i → IsUnfolded p j → component_of i ≡ component_of j → i ≡ j
  same_instance p (instance n cs is) (instance m ds js) u w e =
      let c : cs ≡ ds = u.0 ∙ ap (constants_in p) e ∙ sym w.0 in
      let s : is ≡ js = same_instances p (all_sites n) is js u.1 (subst (λ k. AreUnfolded p (all_sites k) js) (sym e) w.1) in
      ap (λ k. instance k cs is) e ∙ (ap (λ k. instance m k is) c ∙ ap (λ k. instance m ds k) s)

  pub same_instances : (p : Program) (ss : List Site) (is js : Instances) → AreUnfolded p ss is → AreUnfolded p ss js → is ≡ js
  same_instances p [] no_instances no_instances u w = refl
  same_instances p [] (with_instance c k is) js u w = absurd u
  same_instances p [] no_instances (with_instance c k js) u w = absurd w
  same_instances p (s ∷ ss) no_instances js u w = absurd u
  same_instances p (s ∷ ss) (with_instance c k is) no_instances u w = absurd w
  same_instances p (s ∷ ss) (with_instance c k is) (with_instance d j js) u w =
      let e : c ≡ d = u.0 ∙ sym w.0 in
      let h : k ≡ j = same_instance p k j u.2 w.2 (some_same (component_of k) (component_of j) (sym u.1 ∙ w.1)) in
      let r : is ≡ js = same_instances p ss is js u.3 w.3 in
      ap (λ x. with_instance x k is) e ∙ (ap (λ x. with_instance d x is) h ∙ ap (λ x. with_instance d j x) r)
