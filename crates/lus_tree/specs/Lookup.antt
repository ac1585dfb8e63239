-- The nodes of a program, by number and by name.
use Rattle.std.specs.Prelude.{ℕ, suc, List, [], ◌∷◌, Option, Some, None, cond, option_map, slice_get}
use Rattle.std.specs.Str.{bytes_eq}
use Rattle.lus_tree.specs.Tree.{Name, Component, declared_constant, declared_node, declared_contract, Program}

-- the nodes and functions in text order
abbrev pub nodes_of : Program → List Component
nodes_of [] = []
nodes_of (declared_node n ∷ ds) = n ∷ nodes_of ds
nodes_of (declared_constant c ∷ ds) = nodes_of ds
nodes_of (declared_contract c ∷ ds) = nodes_of ds

-- the node or function of that number, counted from 0; none where there are no more than that
abbrev pub node_at : ℕ → Program → Option Component
node_at k p = slice_get (nodes_of p) k

-- the place of the first component of that name
abbrev pub place_of : Name → List Component → Option ℕ
place_of x [] = None
place_of x (n ∷ ns) = cond (bytes_eq x n.name.text) (Some 0) (option_map suc (place_of x ns))

-- the number of the first node or function of that name, none where there is none
abbrev pub number_of : Name → Program → Option ℕ
number_of x p = place_of x (nodes_of p)
