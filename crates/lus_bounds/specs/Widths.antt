-- How many variables the systems of nodes and functions have.
use Rattle.std.specs.Prelude.{ℕ, List, [], ◌∷◌, ◌++◌, map}
use Rattle.lus_tree.specs.Tree.{Declaration, declared_constant, declared_node, declared_contract, Program}
use Rattle.lus_tree.specs.Lookup.{nodes_of}
use Rattle.lus_meaning.specs.Program.{instance_of}
use Rattle.lus_meaning.specs.Slots.{width}
use Rattle.lus_limits.specs.declared.systems.SystemSize.{SystemSize}
use Rattle.lus_limits.specs.SystemSizes.{system_size}
use Rattle.lus_bounds.specs.Passed.{parts_after, size_at}

-- of one declaration, behind so many with parts
abbrev pub declaration_widths : List SystemSize → ℕ → Declaration → List ℕ
declaration_widths zs k (declared_constant c) = []
declaration_widths zs k (declared_node n) = (size_at zs k).variables ∷ []
declaration_widths zs k (declared_contract n) = []

-- of the declarations in turn
abbrev pub widths_by : List SystemSize → ℕ → List Declaration → List ℕ
widths_by zs k [] = []
widths_by zs k (d ∷ ds) = declaration_widths zs k d ++ widths_by zs (parts_after k d) ds

-- of each node and function in text order, cut
abbrev pub cut_widths : Program → List ℕ
cut_widths p = map (λ n. (system_size p n).variables) (nodes_of p)

-- of each node and function in text order
abbrev pub widths : Program → List ℕ
widths p = map (λ n. width (instance_of p n)) (nodes_of p)
