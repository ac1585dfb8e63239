-- An unfolded instance of a declaration is made of those of its callees.
use Rattle.std.proofs.Common.{◌≡◌, List, [], ◌∷◌, length, Some, unwrap_or, refl, sym, ap, ◌∙◌}
use Rattle.lus_tree.specs.Tree.{Component, Program}
use Rattle.lus_meaning.specs.Scene.{Site, Instance, Instances, instance, no_instances, with_instance, component_of, no_component}
use Rattle.lus_meaning.specs.Program.{all_sites, component_named, constants_in, instances_with, instance_of}
use Rattle.lus_meaning.specs.Refusals.{IsChecked}
use Rattle.rule_laws.specs.Laws.{IsUnfolded, AreUnfolded}
use Rattle.rule_laws.proofs.Unfolded.{component_within, each_unfolded}
use Rattle.rule_laws.proofs.Covered.{found_declared, one_instance}
use Rattle.lus_limits.specs.Instances.{instance_called_so, MadeOfCallees}

pub component_called : (p : Program) (n : Component) → component_of (instance_of p n) ≡ n
component_called p n = component_within (length p) p n

called_is : (p : Program) → IsChecked p → (s : Site) (k : Instance) → component_named p s.callee ≡ Some (component_of k) → IsUnfolded p k
    → instance_called_so p s.callee ≡ k
called_is p c s k e u =
    ap (λ o. instance_of p (unwrap_or o no_component)) e ∙ one_instance p c k u (found_declared p s.callee (component_of k) e)

calls_made : (p : Program) → IsChecked p → (ss : List Site) (is : Instances) → AreUnfolded p ss is → is ≡ instances_with (instance_called_so p) ss
calls_made p c [] no_instances u = refl
calls_made p c [] (with_instance d k is) u = absurd u
calls_made p c (s ∷ ss) no_instances u = absurd u
calls_made p c (s ∷ ss) (with_instance d k is) u =
    ap (λ x. with_instance x k is) u.0 ∙ ap (λ x. with_instance s x is) (sym (called_is p c s k u.1 u.2))
    ∙ ap (with_instance s (instance_called_so p s.callee)) (calls_made p c ss is u.3)

made : (p : Program) → IsChecked p → (i : Instance) → IsUnfolded p i
    → i ≡ instance (component_of i) (constants_in p (component_of i)) (instances_with (instance_called_so p) (all_sites (component_of i)))
made p c (instance n cs is) u = ap (λ x. instance n x is) u.0 ∙ ap (instance n (constants_in p n)) (calls_made p c (all_sites n) is u.1)

pub made_of_callees : MadeOfCallees
made_of_callees p c n i =
    made p c (instance_of p n) (each_unfolded p c n i)
    ∙ ap (λ m. instance m (constants_in p m) (instances_with (instance_called_so p) (all_sites m))) (component_called p n)
