-- What is found from a row of numbers, and which names that are.
use Rattle.std.specs.Prelude.{◌≡◌, ◌↔◌, ℕ, Bool, true, cond, ◌&&◌, List, [], ◌∷◌, ◌++◌, length}
use Rattle.lus_tree.specs.Tree.{Name, Component}
use Rattle.lus_meaning.specs.Depends.{named_in}
use Rattle.lus_meaning.specs.WellMade.{AreDistinct}
use Rattle.name_table.specs.Names.{add, number_of}
use Rattle.way_laws.specs.OwnGraph.{Summaries, Finds, own_edges}
use Rattle.number_graphs.specs.Graphs.{Rows, LeadsTo, is_marked}
use Rattle.lus_order.specs.OwnNodes.{AreNodes}
use Rattle.lus_order.specs.Stands.{Stands}

-- a number with that row leads to the number
abbrev pub RowLeadsTo : Rows → List ℕ → ℕ → Type 0
RowLeadsTo rows row j = LeadsTo (rows ++ row ∷ []) (length rows) j

abbrev pub is_marked_name : List Bool → List Name → Name → Bool
is_marked_name marks names x = named_in x names && is_marked marks (number_of names x)

-- the names, and those of these that are marked
abbrev pub with_marked : List Bool → List Name → List Name → List Name → List Name
with_marked marks names ks [] = ks
with_marked marks names ks (x ∷ xs) = with_marked marks names (cond (is_marked_name marks names x) (add ks x) ks) xs

-- of these names the table has those to which the row leads
abbrev pub AreFound : Rows → List Name → List ℕ → List Name → List Name → Type 0
AreFound rows names row given t =
    (y : Name) → named_in y given ≡ true → named_in y names ≡ true → (named_in y t ≡ true) ↔ RowLeadsTo rows row (number_of names y)

-- In the rows of an own graph a row that stands for names leads to a name exactly where a way of any number of edges leads
-- there from one of them.
abbrev pub RowsFind : Type 0
RowsFind =
    (n : Component) (g : Summaries) (names : List Name) (rows : Rows) → AreDistinct names → AreNodes n g names rows → (row : List ℕ) (xs : List Name)
    → Stands names row xs → (y : Name) → named_in y names ≡ true → RowLeadsTo rows row (number_of names y) ↔ Finds (own_edges n g) xs y
