-- A checked program as contracts see it.
use Rattle.std.specs.Prelude.{◌≡◌, ◌<◌, ℕ, List, Option, Some, None, length, map, option_map, slice_get}
use Rattle.lus_tree.specs.declared.declaration.Program.{Program as Tree}
use Rattle.lus_tree.specs.Tree.{Component, Program}
use Rattle.lus_tree.specs.View.{program_view}
use Rattle.lus_tree.specs.Lookup.{node_at, nodes_of}
use Rattle.lus_meaning.specs.ClockFaults.{components}
use Rattle.lus_meaning.specs.Order.{IsLeastEquationOrder}
use Rattle.lus_meaning.specs.Program.{instance_of}
use Rattle.lus_meaning.specs.Refusals.{IsChecked, IsWithinLimits}
use Rattle.lus_meaning.specs.Run.{equations}
use Rattle.lus_meaning.specs.Slots.{width}
use Rattle.lus_order.specs.Checked.{AreLeastOrders}
use Rattle.lus_bounds.specs.Widths.{widths}
use Rattle.lus_checked.specs.declared.kept.Kept.{Kept}
use Rattle.lus_order.specs.OutputReads.{AreAllReads}
use Rattle.lus_checked.specs.Properties.{listed_in, lists_seen}
use Rattle.lus_checked.specs.Reads.{kept_reads}

-- the tree, and the number of the main node
abbrev pub Marked : Type 0
Marked = Tree × ℕ

abbrev pub tree_of : Marked → Program
tree_of c = program_view c.0

abbrev pub main_of : Marked → ℕ
main_of c = c.1

-- it breaks no rule and passes no limit, its main node is one, and what is kept beside it is its own
pub record IsCheckedWith (p : Program) (kept : Kept) : Type 0 where
  pub checked : IsChecked p
  pub within : IsWithinLimits p None
  pub node : kept.main < length (nodes_of p)
  pub ordered : AreLeastOrders p (components p) (map (λ o. o.items) kept.orders.items)
  pub counted : kept.widths.items ≡ widths p
  pub listed : lists_seen kept.properties.items ≡ map (listed_in p) (nodes_of p)
  pub read : AreAllReads p (nodes_of p) (kept_reads kept.reads.items)

-- the least order of the equations of the declaration with parts of that number, constants left out
abbrev pub IsOrderOf : Program → ℕ → List ℕ → Type 0
IsOrderOf p k order = (n : Component) → slice_get (components p) k ≡ Some n → IsLeastEquationOrder (instance_of p n) (equations n) order

-- how many variables the system of the node or function with that number has; none where there is no such node
abbrev pub width_of : Program → ℕ → Option ℕ
width_of p k = option_map (λ n. width (instance_of p n)) (node_at k p)
