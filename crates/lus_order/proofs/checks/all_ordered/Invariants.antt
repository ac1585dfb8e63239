use Rattle.std.proofs.Common.{map, take}
use Rattle.lus_scopes.specs.Least.{least_view}
use Rattle.lus_order.specs.Checked.{AllNoted, AreOrdered}
use Rattle.lus_order.specs.Dependences.{orders_seen, reads_seen}
use Rattle.lus_order.specs.Library.{library_view}
use Rattle.lus_order.specs.OutputReads.{AreReadsByOwn}
use Rattle.lus_streams.specs.Owner.{owner_view}
use Rattle.lus_order.proofs.checks.all_ordered.Given as goal

abbrev pub invariant-loop-owner : goal.invariant-loop-owner
invariant-loop-owner l = record {
  noted : AllNoted (map owner_view (take l.owner-index l.owners)) (library_view l.library) (least_view l.initial.least) (least_view l.least);
  orders : AreOrdered (library_view l.library) (map owner_view (take l.owner-index l.owners)) (orders_seen l.all.items);
  reads : AreReadsByOwn (library_view l.library) (map owner_view (take l.owner-index l.owners)) (reads_seen l.all.items);
}
