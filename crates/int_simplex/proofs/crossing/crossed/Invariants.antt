use Rattle.std.specs.Prelude.{◌≤◌, ◌-◌, drop, length}
use Rattle.int_simplex.proofs.Crossings.{IsCrossingTo}
use Rattle.int_simplex.proofs.crossing.crossed.Given as goal

abbrev pub invariant-loop-next : goal.invariant-loop-next
invariant-loop-next l = record {
  rows : IsCrossingTo l.columns l.next l.fn.p l.fn.q l.row l.other (drop l.i l.row) (drop l.j l.other) l.out.items;
  low : l.i ≤ length l.row;
  high : l.j ≤ length l.other;
}

abbrev pub decreases-loop-next : goal.decreases-loop-next
decreases-loop-next l = l.columns - l.next
