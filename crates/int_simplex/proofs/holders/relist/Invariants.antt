use Rattle.std.specs.Prelude.{◌≤◌, ◌-◌, drop, length}
use Rattle.int_simplex.specs.Holding.{lists_of}
use Rattle.int_simplex.proofs.Holding.{IsRelistedTo}
use Rattle.int_simplex.proofs.holders.relist.Given as goal

abbrev pub invariant-loop-next : goal.invariant-loop-next
invariant-loop-next l = record {
  rows : IsRelistedTo l.columns l.next l.k l.old l.new (drop l.i l.old) (drop l.j l.new) (lists_of l.fn.lists.items) (lists_of l.lists.items);
  low : l.i ≤ length l.old;
  high : l.j ≤ length l.new;
}

abbrev pub decreases-loop-next : goal.decreases-loop-next
decreases-loop-next l = l.columns - l.next
