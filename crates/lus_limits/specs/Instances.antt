-- The instance of a declaration of a checked program is made of its own text and of the instances of what it calls.
use Rattle.std.specs.Prelude.{◌≡◌, unwrap_or}
use Rattle.lus_tree.specs.Tree.{Name, Component, Program}
use Rattle.lus_meaning.specs.Scene.{Instance, instance, no_component}
use Rattle.lus_meaning.specs.Program.{all_sites, component_named, constants_in, instances_with, instance_of}
use Rattle.lus_meaning.specs.RuleLaws.{OfEach}

-- the declaration that a call or an import names
abbrev pub callee : Program → Name → Component
callee p x = unwrap_or (component_named p x) no_component

abbrev pub instance_called_so : Program → Name → Instance
instance_called_so p x = instance_of p (callee p x)

-- so what is counted of a declaration's instance is counted of its text and of what is counted of its callees, once each
abbrev pub MadeOfCallees : Type 0
MadeOfCallees = OfEach (λ p n. instance_of p n ≡ instance n (constants_in p n) (instances_with (instance_called_so p) (all_sites n)))
