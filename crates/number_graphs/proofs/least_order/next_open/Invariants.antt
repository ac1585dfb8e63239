use Rattle.std.proofs.Common.{◌≡◌, ◌<◌, ℕ, false}
use Rattle.number_graphs.specs.Graphs.{graph_view}
use Rattle.number_graphs.specs.Rounds.{ArePassed, is_open}
use Rattle.number_graphs.proofs.least_order.next_open.Given as goal

abbrev pub invariant-loop-number : goal.invariant-loop-number
invariant-loop-number l = record {
  none : (j : ℕ) → j < l.number → is_open (graph_view l.graph) l.done j ≡ false;
  passed : ArePassed (graph_view l.graph) l.done l.passed.items;
}
