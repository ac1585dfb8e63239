-- The least order of the equations of a declaration, by the rows of its own graph.
use Rattle.std.specs.Prelude.{◌≡◌, ℕ, ◌-◌, List, [], length}
use Rattle.lus_tree.specs.Tree.{Name}
use Rattle.lus_meaning.specs.Order.{IsLeastOrder, IsLeastEquationOrder}
use Rattle.lus_meaning.specs.Program.{instance_of}
use Rattle.lus_meaning.specs.Run.{equations}
use Rattle.lus_meaning.specs.EquationFaults.{left_faults}
use Rattle.way_laws.specs.Laws.{OfEachByCallees}
use Rattle.number_graphs.specs.Graphs.{Rows, LeadsFrom}
use Rattle.lus_order.specs.OwnNodes.{AreNodes}

-- of the numbers behind those of so many names
abbrev pub IsOrderOf : ℕ → Rows → List ℕ → Type 0
IsOrderOf count rows ks = IsLeastOrder (length rows - count) (LeadsFrom rows count) ks

-- by exact summaries of what a declaration calls and imports, and where its left names have no fault, it is the least order
-- of its equations in the tree of instances
abbrev pub OrdersAreLeast : Type 0
OrdersAreLeast = OfEachByCallees (λ p n g. left_faults n ≡ [] → (names : List Name) (rows : Rows) → AreNodes n g names rows → (ks : List ℕ)
    → IsOrderOf (length names) rows ks → IsLeastEquationOrder (instance_of p n) (equations n) ks)
