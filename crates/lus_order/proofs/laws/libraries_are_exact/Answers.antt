use Rattle.lus_order.proofs.OutputReads.{reads_by_library}
use Rattle.lus_order.proofs.WholeOrders.{circles_by_library, library_exact, orders_by_library}
use Rattle.lus_order.proofs.laws.libraries_are_exact.Goals as goal

pub returns : goal.returns
returns c = record { exact = library_exact; circles = circles_by_library; orders = orders_by_library; reads = reads_by_library }
