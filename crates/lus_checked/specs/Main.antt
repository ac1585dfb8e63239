-- The main node of a program, by its number among nodes and functions.
use Rattle.std.specs.Prelude.{ℕ, suc, Bool, true, false, cond, List, [], ◌∷◌, Option, Some, None, option_map, length}
use Rattle.std.specs.List.{list_any}
use Rattle.lus_tree.specs.Tree.{Name, Statement, equation, assertion, property, main_mark, Component, Program}
use Rattle.lus_tree.specs.Lookup.{nodes_of, number_of}

abbrev pub is_mark : Statement → Bool
is_mark (main_mark p) = true
is_mark (equation xs e) = false
is_mark (assertion e) = false
is_mark (property l) = false

-- its body has the mark of a main node
abbrev pub is_marked : Component → Bool
is_marked n = list_any is_mark n.body

-- the number of the first that is marked
abbrev pub first_marked : List Component → Option ℕ
first_marked [] = None
first_marked (n ∷ ns) = cond (is_marked n) (Some 0) (option_map suc (first_marked ns))

abbrev pub last_number : List Component → Option ℕ
last_number [] = None
last_number (n ∷ ns) = Some (length ns)

abbrev pub unless_found : Option ℕ → Option ℕ → Option ℕ
unless_found (Some k) o = Some k
unless_found None o = o

-- the one that is named; where none is named the first that is marked, else the last
abbrev pub main_node : Program → Option Name → Option ℕ
main_node p (Some x) = number_of x p
main_node p None = unless_found (first_marked (nodes_of p)) (last_number (nodes_of p))
