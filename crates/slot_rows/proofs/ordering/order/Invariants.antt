use Rattle.slot_rows.specs.SlotReads.{reads_view}
use Rattle.slot_rows.specs.Searching.{search_view}
use Rattle.slot_rows.proofs.SlotOrders.{AreMet}
use Rattle.slot_rows.proofs.ordering.order.Given as goal

abbrev pub invariant-loop-root : goal.invariant-loop-root
invariant-loop-root l = AreMet (reads_view l.reads) (search_view l.search) l.root
