use Rattle.std.specs.Prelude.{◌+◌, ◌-◌, length}
use Rattle.sat_core.specs.Watching.{AreSame, lists_of}
use Rattle.sat_core.proofs.watches.widen.Given as goal

abbrev pub invariant-loop-alloc : goal.invariant-loop-alloc
invariant-loop-alloc l = AreSame (lists_of l.fn.lists.items) (lists_of l.lists.items)

abbrev pub decreases-loop-alloc : goal.decreases-loop-alloc
decreases-loop-alloc l = l.place + 1 - length l.lists.items
