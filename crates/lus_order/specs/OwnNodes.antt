-- The own graph of a declaration, whose nodes are the numbers of its streams and then those of its equations.
use Rattle.std.specs.Prelude.{◌≡◌, ◌↔◌, ℕ, ◌<◌, ◌+◌, ◌-◌, true, false, cond, nat_lt, List, [], length}
use Rattle.lus_tree.specs.Tree.{Name, Component}
use Rattle.lus_meaning.specs.Scene.{contract_statements, variables}
use Rattle.lus_meaning.specs.Run.{equations}
use Rattle.lus_meaning.specs.Order.{left_at}
use Rattle.lus_meaning.specs.Depends.{named_in}
use Rattle.lus_meaning.specs.WellMade.{AreDistinct}
use Rattle.way_laws.specs.OwnGraph.{Summaries}
use Rattle.way_laws.specs.Nodes.{Node, of_name, of_equation, IsEdge, NodeLeads}
use Rattle.lus_order.specs.declared.setting.Clocks.{Clocks}
use Rattle.lus_order.specs.declared.setting.Callees.{Callees}
use Rattle.number_graphs.specs.Graphs.{Rows, leads, LeadsTo}
use Rattle.lus_order.specs.Numbered.{name_at}
use Rattle.lus_order.specs.OwnReads.{AreFlagsOf}
use Rattle.lus_order.specs.OwnRows.{own_rows}
use Rattle.lus_order.specs.Reads.{callees_view}
use Rattle.lus_order.specs.Rows.{ModeRows, mode_rows_after}
use Rattle.lus_order.specs.Streams.{AreTabled, names_of}

abbrev pub node_at : List Name → ℕ → Node
node_at names v = cond (nat_lt v (length names)) (of_name (name_at names v)) (of_equation (v - length names))

-- the rows stand for the nodes of the own graph by these summaries
pub record AreNodes (n : Component) (g : Summaries) (names : List Name) (rows : Rows) : Type 0 where
  pub whole : length rows ≡ length names + length (equations n)
  pub ways : (v w : ℕ) → LeadsTo rows v w ↔ NodeLeads n g (node_at names v) (node_at names w)
  pub closed : (v w : ℕ) → leads rows v w ≡ true → w < length rows
  pub outside : (x : Name) (b : Node) → named_in x names ≡ false → IsEdge n g (of_name x) b → Prim.⊥

-- the modes of a declaration's contract, by numbers
abbrev pub own_modes : Clocks → Callees → Summaries → Component → ModeRows
own_modes s t g n = mode_rows_after s t g [] (contract_statements n)

-- each left name is in the table
abbrev pub HasLefts : Component → List Name → Type 0
HasLefts n names = (k : ℕ) (x : Name) → named_in x (left_at (equations n) k) ≡ true → named_in x names ≡ true

-- where no two streams have one name, the rows of a declaration stand for its own graph
abbrev pub RowsAreNodes : Type 0
RowsAreNodes =
    (n : Component) (g : Summaries) (s : Clocks) (t : Callees) → AreTabled (variables n) s → AreDistinct s.names
    → AreDistinct (names_of (variables n)) → HasLefts n s.names → AreFlagsOf g (callees_view t)
    → AreNodes n g s.names (own_rows s t (own_modes s t g n) (equations n))
