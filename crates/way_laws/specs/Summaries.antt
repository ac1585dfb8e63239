-- Which summary of a declaration is right: by its own graph, and by the whole tree of its instances.
use Rattle.std.specs.Prelude.{◌≡◌, ◌↔◌, ℕ, true, List, [], ◌++◌, map, Contains, Some}
use Rattle.std.specs.Map.{lookup}
use Rattle.std.specs.Str.{bytes_eq}
use Rattle.lus_tree.specs.Tree.{Name, Component, Program}
use Rattle.lus_meaning.specs.Scene.{Site, Instance, component_of, contract_statements}
use Rattle.lus_meaning.specs.Program.{all_sites, instance_of}
use Rattle.lus_meaning.specs.Depends.{Need, a_name, modes_need, known_needs, named_in}
use Rattle.lus_meaning.specs.Cycle.{Place, place_of, IsWay, last_place}
use Rattle.lus_meaning.specs.Scope.{mode_names}
use Rattle.lus_meaning.specs.Rules.{names_of}
use Rattle.lus_meaning.specs.RuleLaws.{callee_of}
use Rattle.way_laws.specs.OwnGraph.{Summary, Summaries, Finds, own_edges, mode_reads, known_reads}

-- of these names the list holds exactly those that are read
abbrev pub HoldsOf : List Name → List Name → (Name → Type 0) → Type 0
HoldsOf given ys Read = (y : Name) → named_in y given ≡ true → (named_in y ys ≡ true) ↔ Read y

-- a mode of the contract has a list, and of inputs and outputs it holds exactly those that the mode reads
pub record HasMode (s : Summary) (m : Name) (Read : Name → Type 0) : Type 0 where
  pub list : List Name
  pub found : lookup (bytes_eq m) s.modes ≡ Some list
  pub holds : HoldsOf (s.inputs ++ s.outputs) list Read

-- A summary of a declaration where an output reads a name by the first test, and a mode by the second.
pub record Summarises (n : Component) (OutputsRead : Name → Type 0) (ModeReads : Name → Name → Type 0) (s : Summary) : Type 0 where
  pub inputs : s.inputs ≡ names_of n.inputs
  pub outputs : s.outputs ≡ names_of n.outputs
  pub reads : HoldsOf s.inputs s.reads OutputsRead
  pub modes : (m : Name) → named_in m (mode_names (contract_statements n)) ≡ true → HasMode s m (ModeReads m)

-- ---- by the own graph

-- what its outputs lead to, and what the names that the requires of a mode read lead to
abbrev pub IsSummary : Component → Summaries → Summary → Type 0
IsSummary n g s =
    Summarises n (Finds (own_edges n g) (names_of n.outputs)) (λ m. Finds (own_edges n g) (known_reads (mode_reads n g) ([], m))) s

-- ---- in the tree of instances

-- a way of needs, of any number of steps, from one of these to a name
pub record Needs (i : Instance) (ns : List Need) (y : Name) : Type 0 where
  pub start : Need
  pub starts : Contains ns start
  pub steps : List (ℕ × Place)
  pub way : IsWay i (place_of start) steps
  pub last : last_place (place_of start) steps ≡ ([], Some y)

abbrev pub IsExact : Instance → Summary → Type 0
IsExact i s =
    Summarises (component_of i) (Needs i (map (a_name []) (names_of (component_of i).outputs)))
    (λ m. Needs i (known_needs (modes_need i) ([], m))) s

-- the summaries of all that a declaration calls and imports are exact
abbrev pub CalleesExact : Program → Component → Summaries → Type 0
CalleesExact p n g = (c : Site) → Contains (all_sites n) c → IsExact (instance_of p (callee_of p c)) (g c.callee)
