-- The declarations of a program with the places of those that they call unfold to its instances.
use Rattle.std.specs.Prelude.{◌≡◌, ℕ, List, map}
use Rattle.lus_tree.specs.Tree.{Name, Component, Program}
use Rattle.lus_meaning.specs.ClockFaults.{components}
use Rattle.lus_meaning.specs.Program.{all_sites, instance_within}
use Rattle.lus_meaning.specs.Scene.{Site}
use Rattle.name_table.specs.Names.{number_of}
use Rattle.evaluation_parts.specs.Unfolded.{Linked, Declared, unfolded}

abbrev pub names_in : Program → List Name
names_in p = map (λ n. n.name.text) (components p)

-- a call, with the place of its callee; past the last one where there is none
abbrev pub linked_in : Program → Site → Linked
linked_in p s = record { site = s; place = number_of (names_in p) s.callee }

abbrev pub declared_in : Program → Component → Declared
declared_in p n = record { component = n; calls = map (linked_in p) (all_sites n) }

abbrev pub all_declared : Program → List Declared
all_declared p = map (declared_in p) (components p)

abbrev pub InstancesUnfold : Type 0
InstancesUnfold = (p : Program) (d : ℕ) (n : Component) → unfolded p (all_declared p) d (declared_in p n) ≡ instance_within d p n
