use Rattle.std.proofs.Common.{◌≡◌, map, length}
use Rattle.lus_tree.specs.View.{program_view}
use Rattle.lus_meaning.specs.ClockFaults.{components}
use Rattle.lus_order.specs.Declarations.{declared_view, with_calls}
use Rattle.lus_order.proofs.CalleesFirst.{left}
use Rattle.lus_order.proofs.Settled.{AreSettled}
use Rattle.lus_order.proofs.learned.library_of.Given as goal

abbrev pub invariant-loop-owner : goal.invariant-loop-owner
invariant-loop-owner l = record {
  listed : map declared_view l.all.items ≡ map with_calls (components (program_view l.program));
  settled : AreSettled (program_view l.program) l.library;
}

abbrev pub decreases-loop-owner : goal.decreases-loop-owner
decreases-loop-owner l = length (left l.library.callees.names (map declared_view l.all.items))
