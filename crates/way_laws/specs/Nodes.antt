-- The own graph with a node for each name and for each equation, so that what an equation reads is listed once.
use Rattle.std.specs.Prelude.{◌≡◌, ℕ, true, List, [], ◌∷◌, map, get_or}
use Rattle.lus_tree.specs.Tree.{Name, Component}
use Rattle.lus_meaning.specs.Run.{equations}
use Rattle.lus_meaning.specs.Depends.{named_in}
use Rattle.lus_meaning.specs.Order.{left_at}
use Rattle.way_laws.specs.OwnGraph.{Summaries, declared_reads, equation_reads}

-- a name, or an equation by its number, counted from 0
pub data Node : Type 0 where
  of_name : Name → Node
  of_equation : ℕ → Node

abbrev pub read_at : Component → Summaries → ℕ → List Name
read_at n g k = get_or (map (equation_reads n g) (equations n)) k []

-- a name leads to that of its clock and to the equation that defines it, and an equation to the names that it reads
abbrev pub IsEdge : Component → Summaries → Node → Node → Type 0
IsEdge n g (of_name x) (of_name y) = named_in y (declared_reads n g x) ≡ true
IsEdge n g (of_name x) (of_equation k) = named_in x (left_at (equations n) k) ≡ true
IsEdge n g (of_equation k) (of_name y) = named_in y (read_at n g k) ≡ true
IsEdge n g (of_equation k) (of_equation j) = ⊥

abbrev pub IsNodeWay : Component → Summaries → Node → List Node → Type 0
IsNodeWay n g a [] = Unit {0}
IsNodeWay n g a (b ∷ bs) = IsEdge n g a b × IsNodeWay n g b bs

abbrev pub last_node : Node → List Node → Node
last_node a [] = a
last_node a (b ∷ bs) = last_node b bs

-- a way of at least one edge
pub record NodeLeads (n : Component) (g : Summaries) (a z : Node) : Type 0 where
  pub first : Node
  pub rest : List Node
  pub way : IsNodeWay n g a (first ∷ rest)
  pub last : last_node first rest ≡ z
