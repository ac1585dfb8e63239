-- The declarations of a program with the places of those that they call unfold to its instances.
use Rattle.std.proofs.Common.{◌≡◌, refl, ap, ◌∙◌, ℕ, zero, suc, Bool, true, false, cond, List, [], ◌∷◌, map, Option, Some, None, option_map, unwrap_or, slice_get}
use Rattle.std.specs.Str.{bytes_eq}
use Rattle.lus_tree.specs.Tree.{Name, Component, Program, declared_constant, declared_node, declared_contract}
use Rattle.lus_meaning.specs.ClockFaults.{components}
use Rattle.lus_meaning.specs.Program.{all_sites, component_named, constants_in, first_of_two, instance_within, instances_with}
use Rattle.lus_meaning.specs.Scene.{Site, Instance, instance, no_component, with_instance}
use Rattle.name_table.specs.Names.{number_of}
use Rattle.evaluation_parts.specs.Unfolded.{nothing, if_there, calls_with, unfolded, called_instance}
use Rattle.evaluation_parts.specs.Declares.{names_in, linked_in, declared_in, all_declared}

found_one : (p : Program) (n : Component) (ns : List Component) (k : ℕ) (o : Option Component) (b : Bool)
    → slice_get (map (declared_in p) ns) k ≡ option_map (declared_in p) o
    → slice_get (map (declared_in p) (n ∷ ns)) (cond b 0 (suc k)) ≡ option_map (declared_in p) (first_of_two (cond b (Some n) None) o)
found_one p n ns k o true e = refl
found_one p n ns k o false e = e

found : (p q : Program) (x : Name)
    → slice_get (map (declared_in p) (components q)) (number_of (names_in q) x) ≡ option_map (declared_in p) (component_named q x)
found p [] x = refl
found p (declared_constant c ∷ ds) x = found p ds x
found p (declared_node n ∷ ds) x =
    found_one p n (components ds) (number_of (names_in ds) x) (component_named ds x) (bytes_eq x n.name.text) (found p ds x)
found p (declared_contract n ∷ ds) x =
    found_one p n (components ds) (number_of (names_in ds) x) (component_named ds x) (bytes_eq x n.name.text) (found p ds x)

nothing_is : (p : Program) (d : ℕ) → nothing p ≡ instance_within d p no_component
nothing_is p zero = refl
nothing_is p (suc d) = refl

there : (p : Program) (d : ℕ) → ((n : Component) → unfolded p (all_declared p) d (declared_in p n) ≡ instance_within d p n) → (o : Option Component)
    → if_there p (unfolded p (all_declared p) d) (option_map (declared_in p) o) ≡ instance_within d p (unwrap_or o no_component)
there p d h None = nothing_is p d
there p d h (Some n) = h n

calls : (p : Program) (f : ℕ → Instance) (g : Name → Instance) → ((x : Name) → f (number_of (names_in p) x) ≡ g x) → (ss : List Site)
    → calls_with f (map (linked_in p) ss) ≡ instances_with g ss
calls p f g h [] = refl
calls p f g h (s ∷ ss) = ap (λ z. with_instance s z (calls_with f (map (linked_in p) ss))) (h s.callee)
    ∙ ap (λ z. with_instance s (g s.callee) z) (calls p f g h ss)

pub instances_unfold : (p : Program) (d : ℕ) (n : Component) → unfolded p (all_declared p) d (declared_in p n) ≡ instance_within d p n
instances_unfold p zero n = refl
instances_unfold p (suc d) n = ap (λ z. instance n (constants_in p n) z)
    (calls p (called_instance p (all_declared p) d) (λ x. instance_within d p (unwrap_or (component_named p x) no_component))
    (λ x. ap (if_there p (unfolded p (all_declared p) d)) (found p p x) ∙ there p d (instances_unfold p d) (component_named p x)) (all_sites n))
